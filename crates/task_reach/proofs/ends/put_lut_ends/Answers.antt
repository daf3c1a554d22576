use Rattle.std.proofs.lemmas.Option.{slice_get-get_or}
use Rattle.pb_expand.specs.declared.number.PbIx.{PbIx}
use Rattle.task_reach.specs.Reached.{IsOpenInput}
use Rattle.task_reach.proofs.Growing.{item_more}
use Rattle.task_reach.proofs.Across.{listed_inside, all_luts}
use Rattle.task_reach.proofs.ends.put_lut_ends.Goals as goal

pub put_lut_at-requires-clause-inside : goal.put_lut_at-requires-clause-inside
put_lut_at-requires-clause-inside c =
    let list = c.homes_of-leaf-items.result.now in
    listed_inside c.args.graph.now c.args.task.now c.args.place c.loop-leaf.leaf-index list _ c.requires.task c.homes_of-leaf-items.ensures (slice_get-get_or list c.loop-leaf.leaf-index (record { 0 = 0 }) c.loop-leaf-test.true)

pub loop-leaf-preserved : goal.loop-leaf-preserved
loop-leaf-preserved c =
    let list = c.homes_of-leaf-items.result.now in
    item_more list (λ (leaf : PbIx). IsOpenInput c.args.graph.now c.args.task.now c.args.trail.now.made c.args.place leaf.0) c.args.reached.now c.loop-leaf.reached c.put_lut_at.new.reached c.loop-leaf.leaf-index _
    (slice_get-get_or list c.loop-leaf.leaf-index (record { 0 = 0 }) c.loop-leaf-test.true) c.loop-leaf.invariant c.put_lut_at.ensures.gains c.put_lut_at.ensures.room

pub returns-clause-gains : goal.returns-clause-gains
returns-clause-gains c =
    all_luts c.args.graph.now c.args.task.now c.args.trail.now.made c.args.place c.loop-leaf.leaf-index c.homes_of-leaf-items.result.now c.args.reached.now.items c.loop-leaf.reached.items c.homes_of-leaf-items.ensures c.loop-leaf-test.false
    c.loop-leaf.invariant.gains
