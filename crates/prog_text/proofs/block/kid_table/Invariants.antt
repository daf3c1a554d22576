use Rattle.prog_text.specs.Table.{IsTableOf, name_in, kid_name}
use Rattle.prog_text.proofs.block.kid_table.Given as goal

abbrev pub invariant-loop-place : goal.invariant-loop-place
invariant-loop-place l = IsTableOf (name_in kid_name l.fn.kids) l.place l.table.numbers
