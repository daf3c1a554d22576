use Rattle.std.proofs.Common.{length}
use Rattle.prog_text.proofs.graph.GraphNames.+below.Given as goal

abbrev pub decreases-below : goal.decreases-below
decreases-below a = length a.steps.now
