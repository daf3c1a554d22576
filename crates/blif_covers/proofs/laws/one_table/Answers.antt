use Rattle.blif_covers.proofs.OneTable.{one_table, one_row}
use Rattle.blif_covers.proofs.laws.one_table.Goals as goal

pub returns : goal.returns
returns c = record { row = one_row; table = one_table }
