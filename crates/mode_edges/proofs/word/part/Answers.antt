use Rattle.std.proofs.Common.{◌≡◌, ◌∷◌, [], ◌++◌, subst}
use Rattle.mode_edges.proofs.NoReading.{no_part_empty, no_part_open, no_part_range}
use Rattle.mode_edges.proofs.WasRead.{reads_part}
use Rattle.mode_edges.proofs.word.part.Goals as goal

pub returns-in_err-last : goal.returns-in_err-last
returns-in_err-last c =
    rw c.from_residual.ensures
    (no_part_empty c.args.text.now c.in-Some.name.now c.in-Some.behind.now c.in-Some.ensures c.in_err-last.ensures.cases)

pub returns-then-last-ne93 : goal.returns-then-last-ne93
returns-then-last-ne93 c =
    no_part_open c.args.text.now c.in-Some.name.now c.in-Some.behind.now c.in_ok-last.inside.now c.in_ok-last.last.now c.in-Some.ensures
    c.in_ok-last.ensures.cases.0 c.if-last-ne93.true

pub returns-in_err-ends : goal.returns-in_err-ends
returns-in_err-ends c =
    let ends = subst (λ last. c.in-Some.behind.now ≡ c.in_ok-last.inside.now ++ last ∷ []) c.if-last-ne93.false c.in_ok-last.ensures.cases.0 in
    rw c.from_residual-in_err-ends.ensures
    (no_part_range c.args.text.now c.in-Some.name.now c.in-Some.behind.now c.in_ok-last.inside.now c.in-Some.ensures ends c.in_err-ends.ensures)

pub returns : goal.returns
returns c =
    let closes = subst (λ last. c.in-Some.behind.now ≡ c.in_ok-last.inside.now ++ last ∷ []) c.if-last-ne93.false c.in_ok-last.ensures.cases.0 in
    reads_part c.args.text.now c.in-Some.name.now c.in-Some.behind.now c.in_ok-last.inside.now c.in_ok-ends.ends c.in-Some.ensures closes
    c.in_ok-ends.ensures
