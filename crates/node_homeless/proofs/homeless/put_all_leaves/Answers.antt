use Rattle.std.proofs.lemmas.Option.{slice_get-get_or}
use Rattle.list_laws.proofs.Members.{has_at}
use Rattle.task_types.specs.Open.{IsOpenTo}
use Rattle.node_homeless.proofs.Growing.{item_more}
use Rattle.node_homeless.proofs.homeless.put_all_leaves.Goals as goal

pub put_leaves-requires-clause-atom : goal.put_leaves-requires-clause-atom
put_leaves-requires-clause-atom c =
    c.requires.inside _ (has_at c.args.atoms.now c.loop-atom.atom-index _ (slice_get-get_or c.args.atoms.now c.loop-atom.atom-index 0 c.loop-atom-test.true))

pub loop-atom-preserved : goal.loop-atom-preserved
loop-atom-preserved c =
    item_more c.args.atoms.now (IsOpenTo c.args.graph.now c.args.task.now c.args.trail.now.made) c.args.leaves.now c.loop-atom.leaves c.put_leaves.new.leaves c.loop-atom.atom-index _
    (slice_get-get_or c.args.atoms.now c.loop-atom.atom-index 0 c.loop-atom-test.true) c.loop-atom.invariant c.put_leaves.ensures.gains c.put_leaves.ensures.room
