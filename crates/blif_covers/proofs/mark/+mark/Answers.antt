use Rattle.std.proofs.Common.{refl, arith, inl, inr, ◌+◌, ◌*◌}
use Rattle.std.specs.Prelude.{true, false}
use Rattle.blif_covers.proofs.Marking.{front_literals, room, shorter, turns_here, turns_one, turns_both, low_alone, high_alone, is_dash, no_pattern}
use Rattle.blif_covers.proofs.mark.+mark.Goals as goal

pub mark-requires : goal.mark-requires
mark-requires t c =
    let pattern = c.args.pattern.now in
    let front = c.in-Some.front.now in
    let last = c.in-Some.last.now in
    let is = c.in-Some.ensures.cases.0 in
    let few = shorter pattern front last is in (
      omega (arith, few, c.decreases),
      (
        front_literals pattern front last is c.requires.literals,
        (room pattern front last c.args.behind (2 * c.args.behind) _ is (omega arith) c.requires.inside, c.requires.small),
      ),
    )

pub mark-requires-then-last-eq49 : goal.mark-requires-then-last-eq49
mark-requires-then-last-eq49 t c =
    let pattern = c.args.pattern.now in
    let front = c.in-Some.front.now in
    let last = c.in-Some.last.now in
    let is = c.in-Some.ensures.cases.0 in
    let few = shorter pattern front last is in (
      omega (arith, few, c.decreases),
      (
        front_literals pattern front last is c.requires.literals,
        (room pattern front last c.args.behind (2 * c.args.behind + 1) _ is (omega arith) c.requires.inside, c.requires.small),
      ),
    )

pub mark-requires-2 : goal.mark-requires-2
mark-requires-2 t c =
    let pattern = c.args.pattern.now in
    let front = c.in-Some.front.now in
    let last = c.in-Some.last.now in
    let is = c.in-Some.ensures.cases.0 in
    let few = shorter pattern front last is in (
      omega (arith, few, c.decreases),
      (
        front_literals pattern front last is c.requires.literals,
        (room pattern front last c.args.behind (2 * c.args.behind) _ is (omega arith) c.requires.inside, c.requires.small),
      ),
    )

pub mark-requires-3 : goal.mark-requires-3
mark-requires-3 t c =
    let pattern = c.args.pattern.now in
    let front = c.in-Some.front.now in
    let last = c.in-Some.last.now in
    let is = c.in-Some.ensures.cases.0 in
    let few = shorter pattern front last is in
    let inside = room pattern front last c.args.behind (2 * c.args.behind + 1) _ is (omega arith) c.requires.inside in (
      omega (arith, few, c.decreases),
      (
        front_literals pattern front last is c.requires.literals,
        (omega (arith, inside, c.mark-2.ensures.width), omega (arith, c.requires.small, c.mark-2.ensures.width)),
      ),
    )

pub returns-then-last-eq48 : goal.returns-then-last-eq48
returns-then-last-eq48 t c =
    turns_one c.args.pattern.now c.in-Some.front.now c.in-Some.last.now false c.args.behind (2 * c.args.behind) c.args.table.now c.mark.new.table
    c.in-Some.ensures.cases.0 (inr (inl (c.if-last-eq48.true, refl))) (low_alone c.in-Some.last.now c.if-last-eq48.true) (omega arith) c.mark.ensures

pub returns-then-last-eq49 : goal.returns-then-last-eq49
returns-then-last-eq49 t c =
    turns_one c.args.pattern.now c.in-Some.front.now c.in-Some.last.now true c.args.behind (2 * c.args.behind + 1) c.args.table.now
    c.mark-then-last-eq49.new.table c.in-Some.ensures.cases.0 (inr (inr (c.if-last-eq49.true, refl)))
    (high_alone c.in-Some.last.now c.if-last-eq49.true) (omega arith) c.mark-then-last-eq49.ensures

pub returns : goal.returns
returns t c =
    let pattern = c.args.pattern.now in
    let front = c.in-Some.front.now in
    let last = c.in-Some.last.now in
    let is = c.in-Some.ensures.cases.0 in
    turns_both pattern front last c.args.behind (2 * c.args.behind) (2 * c.args.behind + 1) c.args.table.now c.mark-2.new.table c.mark-3.new.table is
    (is_dash pattern front last is c.requires.literals c.if-last-eq48.false c.if-last-eq49.false) refl refl c.mark-2.ensures c.mark-3.ensures

pub returns-in_default : goal.returns-in_default
returns-in_default t c =
    let none = no_pattern c.args.pattern.now c.in_default.ensures.cases in
    turns_here c.args.pattern.now c.args.behind c.args.table.now c.put.new.self none.0
    (omega (arith, none.1 c.args.behind _ c.requires.inside)) c.put.ensures
