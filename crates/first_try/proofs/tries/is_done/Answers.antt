use Rattle.first_try.proofs.tries.is_done.Goals as goal

pub find_cut-requires-clause-root : goal.find_cut-requires-clause-root
find_cut-requires-clause-root c = c.enters_law.ensures c.args.task.now c.args.trail.now.made c.requires.on.path

pub next_var-requires-clause-root : goal.next_var-requires-clause-root
next_var-requires-clause-root c = c.enters_law.ensures c.args.task.now c.args.trail.now.made c.requires.on.path
