use Rattle.task_room.proofs.room.tally_instances.Goals as goal

pub loop-pb-init : goal.loop-pb-init
loop-pb-init c = (c.empty-tally.ensures.count, c.empty-tally.ensures.tally c.args.graph.now c.args.task.now)
