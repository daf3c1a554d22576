use Rattle.std.proofs.Common.{◌≡◌, ◌<◌, ◌≤◌, Some, length, get_or, slice_get, sym, ap, ◌∙◌, arith}
use Rattle.std.proofs.lemmas.Option.{slice_get-get_or}
use Rattle.list_laws.proofs.Members.{has_at}
use Rattle.search_crowds.proofs.Lists.{no_more_pins}
use Rattle.search_crowds.proofs.Spreading.{spread_all}
use Rattle.search_crowds.proofs.edges.spread.Goals as goal

pub push_steps-requires-clause-pin : goal.push_steps-requires-clause-pin
push_steps-requires-clause-pin c =
    let less : c.loop-at.at < length c.as_slice-in-loop-at.result.now = omega (arith, c.loop-at-test.true, ap length c.as_slice.ensures, ap length c.as_slice-in-loop-at.ensures) in
    let is : slice_get c.loop-at.reached.items c.loop-at.at ≡ Some (get_or c.as_slice-in-loop-at.result.now c.loop-at.at 0) =
    ap (λ l. slice_get l c.loop-at.at) (sym c.as_slice-in-loop-at.ensures) ∙ slice_get-get_or c.as_slice-in-loop-at.result.now c.loop-at.at 0 less in
    let inside = c.law.ensures.inside _ (has_at c.loop-at.reached.items c.loop-at.at _ is) in
    omega (arith, inside, c.loop-at.invariant.room)

pub loop-at-smaller : goal.loop-at-smaller
loop-at-smaller c =
    let few = no_more_pins c.loop-at.reached.items c.loop-at.reached.room c.law.ensures.once c.law.ensures.inside in
    let less : c.loop-at.at < length c.args.graph.now.pins = omega (arith, c.loop-at-test.true, few, c.loop-at.invariant.room, ap length c.as_slice.ensures) in
    omega (arith, less)

pub loop-at-preserved : goal.loop-at-preserved
loop-at-preserved c =
    let less : c.loop-at.at < length c.as_slice-in-loop-at.result.now = omega (arith, c.loop-at-test.true, ap length c.as_slice.ensures, ap length c.as_slice-in-loop-at.ensures) in
    let is : slice_get c.loop-at.reached.items c.loop-at.at ≡ Some (get_or c.as_slice-in-loop-at.result.now c.loop-at.at 0) =
    ap (λ l. slice_get l c.loop-at.at) (sym c.as_slice-in-loop-at.ensures) ∙ slice_get-get_or c.as_slice-in-loop-at.result.now c.loop-at.at 0 less in
    record {
      spread = c.in_ok-push_steps.ensures.spread c.loop-at.at c.args.reached.now.items is c.loop-at.invariant.spread;
      room = c.push_steps.ensures.room ∙ c.loop-at.invariant.room;
      steps = c.push_steps.ensures.steps ∙ c.loop-at.invariant.steps;
    }

pub returns-clause-spread : goal.returns-clause-spread
returns-clause-spread c =
    let whole : length c.loop-at.reached.items ≤ c.loop-at.at = omega (arith, c.loop-at-test.false, ap length c.as_slice.ensures) in
    spread_all c.args.graph.now c.args.trail.now.made c.args.reached.now.items c.loop-at.reached.items c.loop-at.at c.loop-at.edges.items whole c.loop-at.invariant.spread
