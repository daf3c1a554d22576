use Rattle.search_real.proofs.Saying.{first_said}
use Rattle.search_real.proofs.prog.prog_of.Goals as goal

pub put_modes-requires-clause-before : goal.put_modes-requires-clause-before
put_modes-requires-clause-before c = first_said c.args.graph.now c.args.trail.now.made c.in_ok-prog.prog c.in_ok-prog.ensures.off
