use Rattle.mode_search.proofs.find.found.Goals as goal

pub real_at-requires-clause-ready : goal.real_at-requires-clause-ready
real_at-requires-clause-ready c =
    c.ready_law.ensures c.args.net.now.atoms c.args.task.now c.args.trail.now.made (c.home_law.ensures c.args.net.now.atoms c.args.task.now c.requires.valid) c.requires.found.hopeful.housed c.requires.found.decided
