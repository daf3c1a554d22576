use Rattle.std.proofs.Common.{map, drop}
use Rattle.pb_expand.specs.Types.{mode_of, own_modes}
use Rattle.pb_expand.proofs.FirstFaults.{Goes}
use Rattle.pb_expand.proofs.faults.check_own.Given as goal

abbrev pub invariant-loop-mode : goal.invariant-loop-mode
invariant-loop-mode l = Goes (own_modes l.block) (map (mode_of l.block) (drop l.mode-index l.mode-items))
