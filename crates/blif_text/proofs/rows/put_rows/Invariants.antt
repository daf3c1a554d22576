use Rattle.std.proofs.Common.{◌≡◌, ◌++◌, drop}
use Rattle.blif_text.specs.Rows.{rows_text}
use Rattle.blif_text.proofs.rows.put_rows.Given as goal

abbrev pub invariant-loop-index : goal.invariant-loop-index
invariant-loop-index l = l.out.items ++ rows_text l.inputs l.index (drop l.index l.table) ≡ l.initial.out.items ++ rows_text l.inputs 0 l.table
