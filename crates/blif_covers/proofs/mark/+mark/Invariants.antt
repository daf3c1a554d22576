use Rattle.std.proofs.Common.{length}
use Rattle.blif_covers.proofs.mark.+mark.Given as goal

abbrev pub decreases-mark : goal.decreases-mark
decreases-mark l = length l.pattern.now
