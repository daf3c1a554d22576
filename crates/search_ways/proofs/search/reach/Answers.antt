use Rattle.std.proofs.Common.{◌∙◌, ap, sym, subst, [], None, Some, length, get_or, arith}
use Rattle.sparse_set.specs.Sets.{Held}
use Rattle.task_types.specs.Open.{MayEnd, MayStart}
use Rattle.task_reach.specs.Gains.{Gains}
use Rattle.search_ways.specs.Traces.{IsFilled}
use Rattle.search_ways.proofs.Spreading.{here_is, here_inside, few_places, spread_first, spread_more, spread_shut}
use Rattle.search_ways.proofs.Reaching.{all_reached, no_way}
use Rattle.search_ways.proofs.search.reach.Goals as goal

pub loop-place-init : goal.loop-place-init
loop-place-init c =
    let pins = c.put_ends.new.reached.items in
    let gains = subst (λ (h : Held). Gains h.items pins (MayEnd c.args.graph.now c.args.net.now.atoms c.args.task.now c.args.trail.now.made c.args.need)) c.requires.reached c.put_ends.ensures.gains in
    let old = subst (λ l. IsFilled l c.fill.new.from.items (length c.as_slice.result.now) None) c.requires.from c.in_ok-fill.ensures in
    let filled = subst (λ n. IsFilled [] c.fill.new.from.items n None) (ap length c.as_slice.ensures) old in (
      spread_first c.args.graph.now c.args.net.now.atoms c.args.task.now c.args.trail.now.made c.args.need pins c.fill.new.from.items gains filled,
      c.put_ends.ensures.room ∙ ap (λ (h : Held). h.room) c.requires.reached,
    )

pub may_start-requires-clause-pin : goal.may_start-requires-clause-pin
may_start-requires-clause-pin c =
    let less = here_inside c.loop-place.reached.items c.as_slice-in-loop-place-2.result.now c.as_slice-in-loop-place.result.now c.loop-place.place c.loop-place.reached.room
    c.as_slice-in-loop-place-2.ensures c.as_slice-in-loop-place.ensures c.loop-place-test.true c.law-in-loop-place.ensures.inside in
    omega (arith, less, c.loop-place.invariant.1)

pub put_steps-requires-clause-inside : goal.put_steps-requires-clause-inside
put_steps-requires-clause-inside c =
    let less = here_inside c.loop-place.reached.items c.as_slice-in-loop-place-2.result.now c.as_slice-in-loop-place.result.now c.loop-place.place c.loop-place.reached.room
    c.as_slice-in-loop-place-2.ensures c.as_slice-in-loop-place.ensures c.loop-place-test.true c.law-in-loop-place.ensures.inside in
    omega (arith, less, c.loop-place.invariant.1)

pub overflow_cast-result : goal.overflow_cast-result
overflow_cast-result c =
    let less = few_places c.loop-place.reached.items c.as_slice-in-loop-place.result.now c.loop-place.place c.loop-place.reached.room
    c.as_slice-in-loop-place.ensures c.loop-place-test.true c.law-in-loop-place.ensures.once c.law-in-loop-place.ensures.inside in
    omega (arith, less, c.loop-place.invariant.1, c.law.ensures.few_pins)

pub overflow_cast-place : goal.overflow_cast-place
overflow_cast-place c =
    let less = few_places c.loop-place.reached.items c.as_slice-in-loop-place.result.now c.loop-place.place c.loop-place.reached.room
    c.as_slice-in-loop-place.ensures c.loop-place-test.true c.law-in-loop-place.ensures.once c.law-in-loop-place.ensures.inside in
    omega (arith, less, c.loop-place.invariant.1, c.law.ensures.few_pins)

pub loop-place-smaller : goal.loop-place-smaller
loop-place-smaller c =
    let less = few_places c.loop-place.reached.items c.as_slice-in-loop-place.result.now c.loop-place.place c.loop-place.reached.room
    c.as_slice-in-loop-place.ensures c.loop-place-test.true c.law-in-loop-place.ensures.once c.law-in-loop-place.ensures.inside in
    omega (arith, less, c.put_steps.ensures.room)

pub returns-then-may_start-clause-reached : goal.returns-then-may_start-clause-reached
returns-then-may_start-clause-reached c =
    all_reached c.args.graph.now c.args.net.now.atoms c.args.task.now c.args.trail.now.made c.args.need c.loop-place.reached.items c.loop-place.from.items c.loop-place.invariant.0.traced

pub returns-then-may_start-clause-found : goal.returns-then-may_start-clause-found
returns-then-may_start-clause-found c = record {
  pin = get_or c.as_slice-in-loop-place-2.result.now c.loop-place.place 0;
  is = here_is c.loop-place.reached.items c.as_slice-in-loop-place-2.result.now c.as_slice-in-loop-place.result.now c.loop-place.place c.as_slice-in-loop-place-2.ensures c.as_slice-in-loop-place.ensures c.loop-place-test.true;
  start = c.may_start.ensures.0 c.if-may_start.true;
}

pub loop-place-preserved : goal.loop-place-preserved
loop-place-preserved c =
    let pin = get_or c.as_slice-in-loop-place-2.result.now c.loop-place.place 0 in
    let is = here_is c.loop-place.reached.items c.as_slice-in-loop-place-2.result.now c.as_slice-in-loop-place.result.now c.loop-place.place c.as_slice-in-loop-place-2.ensures c.as_slice-in-loop-place.ensures c.loop-place-test.true in
    let filled = subst (λ n. IsFilled c.loop-place.from.items c.fill-in-loop-place.new.from.items n (Some c.loop-place.place)) (ap length c.as_slice-in-loop-place-3.ensures) c.in_ok-fill-2.ensures in
    let none : MayStart c.args.graph.now c.args.net.now.atoms c.args.task.now c.args.trail.now.made c.args.need pin → ⊥ = λ start. (let bad : ⊥ = cc (sym c.if-may_start.false ∙ c.may_start.ensures.1 start) in bad) in (
      spread_more c.args.graph.now c.args.net.now.atoms c.args.task.now c.args.trail.now.made c.args.need c.loop-place.reached.items c.put_steps.new.reached.items c.loop-place.from.items c.fill-in-loop-place.new.from.items
          c.loop-place.place pin is c.loop-place.invariant.0 none c.put_steps.ensures.gains filled,
      c.put_steps.ensures.room ∙ c.loop-place.invariant.1,
    )

pub returns-clause-reached : goal.returns-clause-reached
returns-clause-reached c =
    all_reached c.args.graph.now c.args.net.now.atoms c.args.task.now c.args.trail.now.made c.args.need c.loop-place.reached.items c.loop-place.from.items c.loop-place.invariant.0.traced

pub returns-clause-shut : goal.returns-clause-shut
returns-clause-shut c =
    spread_shut c.args.graph.now c.args.net.now.atoms c.args.task.now c.args.trail.now.made c.args.need c.loop-place.reached.items c.loop-place.from.items c.loop-place.place
    (omega (arith, c.loop-place-test.false, ap length c.as_slice-in-loop-place.ensures)) c.loop-place.invariant.0

pub returns-clause-none : goal.returns-clause-none
returns-clause-none c =
    no_way c.args.graph.now c.args.net.now.atoms c.args.task.now c.args.trail.now.made c.args.need c.loop-place.reached.items
    (spread_shut c.args.graph.now c.args.net.now.atoms c.args.task.now c.args.trail.now.made c.args.need c.loop-place.reached.items c.loop-place.from.items c.loop-place.place
    (omega (arith, c.loop-place-test.false, ap length c.as_slice-in-loop-place.ensures)) c.loop-place.invariant.0)
