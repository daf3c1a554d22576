use Rattle.prog_text.specs.Table.{AreKidTables}
use Rattle.prog_text.proofs.block.kid_tables.Given as goal

abbrev pub invariant-loop-mode : goal.invariant-loop-mode
invariant-loop-mode l = AreKidTables l.fn.modes l.mode-index l.tables.items
