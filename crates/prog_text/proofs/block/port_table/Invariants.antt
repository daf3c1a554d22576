use Rattle.prog_text.specs.Table.{IsTableOf, name_in, port_name}
use Rattle.prog_text.proofs.block.port_table.Given as goal

abbrev pub invariant-loop-place : goal.invariant-loop-place
invariant-loop-place l = IsTableOf (name_in port_name l.fn.ports) l.place l.table.numbers
