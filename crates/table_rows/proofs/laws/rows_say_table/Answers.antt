use Rattle.table_rows.proofs.Tabled.{says_table, are_row, outputs_on}
use Rattle.table_rows.proofs.laws.rows_say_table.Goals as goal

pub returns : goal.returns
returns c = record { table = says_table; words = are_row; outputs = outputs_on }
