use Rattle.std.proofs.lemmas.Option.{slice_get-get_or}
use Rattle.pb_expand.specs.declared.number.PbIx.{PbIx}
use Rattle.task_reach.specs.Reached.{IsOpenLeaf}
use Rattle.task_reach.proofs.Growing.{item_more}
use Rattle.task_reach.proofs.Across.{listed_inside, all_leaves}
use Rattle.task_reach.proofs.leaves.put_leaves.Goals as goal

pub put_leaf-requires-clause-inside : goal.put_leaf-requires-clause-inside
put_leaf-requires-clause-inside c =
    let list = c.homes_of-leaf-items.result.now in
    listed_inside c.args.graph.now c.args.task.now c.args.place c.loop-leaf.leaf-index list _ c.requires.task c.homes_of-leaf-items.ensures (slice_get-get_or list c.loop-leaf.leaf-index (record { 0 = 0 }) c.loop-leaf-test.true)

pub loop-leaf-preserved : goal.loop-leaf-preserved
loop-leaf-preserved c =
    let list = c.homes_of-leaf-items.result.now in
    item_more list (λ (leaf : PbIx). IsOpenLeaf c.args.graph.now c.args.task.now c.args.trail.now.made c.args.place leaf.0) c.args.leaves.now c.loop-leaf.leaves c.put_leaf.new.leaves c.loop-leaf.leaf-index _
    (slice_get-get_or list c.loop-leaf.leaf-index (record { 0 = 0 }) c.loop-leaf-test.true) c.loop-leaf.invariant c.put_leaf.ensures.gains c.put_leaf.ensures.room

pub returns-clause-gains : goal.returns-clause-gains
returns-clause-gains c =
    all_leaves c.args.graph.now c.args.task.now c.args.trail.now.made c.args.place c.loop-leaf.leaf-index c.homes_of-leaf-items.result.now c.args.leaves.now.items c.loop-leaf.leaves.items c.homes_of-leaf-items.ensures c.loop-leaf-test.false
    c.loop-leaf.invariant.gains
