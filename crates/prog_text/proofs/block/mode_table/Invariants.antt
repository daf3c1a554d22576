use Rattle.arch_types.specs.Tree.{name_of_mode}
use Rattle.prog_text.specs.Table.{IsTableOf, name_in}
use Rattle.prog_text.proofs.block.mode_table.Given as goal

abbrev pub invariant-loop-place : goal.invariant-loop-place
invariant-loop-place l = IsTableOf (name_in name_of_mode l.fn.modes) l.place l.table.numbers
