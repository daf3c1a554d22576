use Rattle.std.proofs.Common.{refl}
use Rattle.std.proofs.lemmas.Bool.{false≢true}
use Rattle.real_lines.proofs.Two.{other_keyword, two_said}
use Rattle.real_lines.proofs.words.two_behind.Goals as goal

pub returns-then-not-is_same : goal.returns-then-not-is_same
returns-then-not-is_same c =
    other_keyword c.one_division.ensures.words c.args.line.now c.in-Some.word.now c.in-Some.first.now c.in-Some.second.now c.args.keyword.now c.in-Some.ensures
    (λ same. false≢true (c.if-not-is_same.ensures.1 same))

pub returns : goal.returns
returns c =
    two_said c.args.line.now c.in-Some.word.now c.in-Some.first.now c.in-Some.second.now c.args.keyword.now c.in-Some.ensures (c.if-not-is_same.ensures.0 refl) c.in-Ok.ensures.cases.1

pub returns-in_default : goal.returns-in_default
returns-in_default c first second says = c.in_default.ensures c.args.keyword.now first second says.divided
