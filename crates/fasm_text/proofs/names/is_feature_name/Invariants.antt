use Rattle.std.proofs.Common.{length}
use Rattle.fasm_text.proofs.Naming.{IsNameWith}
use Rattle.fasm_text.proofs.names.is_feature_name.Given as goal

abbrev pub invariant-loop-part : goal.invariant-loop-part
invariant-loop-part l = IsNameWith l.text l.rest

abbrev pub decreases-loop-part : goal.decreases-loop-part
decreases-loop-part l = length l.rest
