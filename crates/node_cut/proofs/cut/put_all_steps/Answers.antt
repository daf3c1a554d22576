use Rattle.std.proofs.Common.{◌≡◌, ◌<◌, Some, length, get_or, slice_get, sym, ap, subst, ◌∙◌, arith}
use Rattle.std.proofs.lemmas.Option.{slice_get-get_or}
use Rattle.vtr_base.specs.Lists.{Has}
use Rattle.list_laws.proofs.Members.{has_at}
use Rattle.task_types.specs.Open.{AllowsStep}
use Rattle.node_cut.proofs.Growing.{item_more}
use Rattle.node_cut.proofs.Barred.{longer, front_is}
use Rattle.node_cut.proofs.cut.put_all_steps.Goals as goal

pub put_steps-requires-clause-inside : goal.put_steps-requires-clause-inside
put_steps-requires-clause-inside c =
    let xs = c.as_slice.result.now in
    let long = longer c.args.listed.now.items c.loop-place.listed.items _ c.loop-place.invariant.gains in
    let less : c.loop-place.place < length xs = omega (arith, c.loop-place-test.true, c.requires.count, long, ap length c.as_slice.ensures) in
    let has = has_at xs c.loop-place.place (get_or xs c.loop-place.place 0) (slice_get-get_or xs c.loop-place.place 0 less) in
    let inside = c.law.ensures.inside (get_or xs c.loop-place.place 0) (subst (λ l. Has l (get_or xs c.loop-place.place 0)) c.as_slice.ensures has) in
    omega (arith, inside, c.loop-place.invariant.room, c.requires.room)

pub loop-place-preserved : goal.loop-place-preserved
loop-place-preserved c =
    let xs = c.as_slice.result.now in
    let long = longer c.args.listed.now.items c.loop-place.listed.items _ c.loop-place.invariant.gains in
    let less : c.loop-place.place < length xs = omega (arith, c.loop-place-test.true, c.requires.count, long, ap length c.as_slice.ensures) in
    let here : slice_get c.loop-place.listed.items c.loop-place.place ≡ Some (get_or xs c.loop-place.place 0) = ap (λ l. slice_get l c.loop-place.place) (sym c.as_slice.ensures) ∙ slice_get-get_or xs c.loop-place.place 0 less in
    item_more c.args.listed.now.items (AllowsStep c.args.graph.now c.args.trail.now.made) c.args.listed.now c.loop-place.listed c.put_steps.new.reached c.loop-place.place (get_or xs c.loop-place.place 0)
    (front_is c.args.listed.now.items c.loop-place.listed.items _ c.loop-place.place (get_or xs c.loop-place.place 0) c.loop-place.invariant.gains (omega (arith, c.loop-place-test.true, c.requires.count)) here)
    c.loop-place.invariant c.put_steps.ensures.gains c.put_steps.ensures.room
