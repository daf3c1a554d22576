use Rattle.std.proofs.Common.{length}
use Rattle.blif_models.proofs.Along.{IsAlong}
use Rattle.blif_models.proofs.model.read_model.Given as goal

abbrev pub invariant-loop-reading : goal.invariant-loop-reading
invariant-loop-reading l = IsAlong l.models l.bytes l.reading l.at

abbrev pub decreases-loop-reading : goal.decreases-loop-reading
decreases-loop-reading l = length l.at.rest.now
