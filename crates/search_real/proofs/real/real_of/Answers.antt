use Rattle.search_real.proofs.Reading.{real_is}
use Rattle.search_real.proofs.real.real_of.Goals as goal

pub returns : goal.returns
returns c =
    real_is c.args.graph.now c.args.task.now c.args.trail.now.made (c.held_law.ensures c.args.task.now c.args.trail.now.made c.requires.path) c.in_ok-prog.prog c.in_ok-prog.ensures
    c.in_ok-homes.homes c.in_ok-entries.entries c.in_ok-homes.ensures c.in_ok-entries.ensures
