use Rattle.std.proofs.Common.{◌≡◌, ◌++◌, map, take, drop}
use Rattle.std.specs.Prelude.{not}
use Rattle.blif_covers.proofs.mark.inverted.Given as goal

abbrev pub invariant-loop-index : goal.invariant-loop-index
invariant-loop-index l = l.table ≡ map not (take l.index l.fn.table) ++ drop l.index l.fn.table
