use Rattle.first_try.proofs.places.has_way.Goals as goal

pub is_active-requires-clause-root : goal.is_active-requires-clause-root
is_active-requires-clause-root c = c.enters_law.ensures c.args.task.now c.args.trail.now.made c.requires.on.path
