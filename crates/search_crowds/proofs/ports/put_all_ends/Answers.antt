use Rattle.std.proofs.lemmas.Option.{slice_get-get_or}
use Rattle.list_laws.proofs.Members.{has_at}
use Rattle.search_crowds.specs.Webs.{EndsOne}
use Rattle.search_crowds.proofs.Growing.{item_more}
use Rattle.search_crowds.proofs.ports.put_all_ends.Goals as goal

pub put_ends_of-requires-clause-number : goal.put_ends_of-requires-clause-number
put_ends_of-requires-clause-number c =
    c.requires.needs _ (has_at c.args.needs.now c.loop-number.number-index _ (slice_get-get_or c.args.needs.now c.loop-number.number-index 0 c.loop-number-test.true))

pub loop-number-preserved : goal.loop-number-preserved
loop-number-preserved c =
    item_more c.args.needs.now (EndsOne c.args.graph.now c.args.net.now.atoms c.args.task.now c.args.trail.now.made) c.args.reached.now c.loop-number.reached c.put_ends_of.new.reached c.loop-number.number-index _
    (slice_get-get_or c.args.needs.now c.loop-number.number-index 0 c.loop-number-test.true) c.loop-number.invariant c.put_ends_of.ensures.gains c.put_ends_of.ensures.room
