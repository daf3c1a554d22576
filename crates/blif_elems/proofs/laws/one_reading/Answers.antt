use Rattle.blif_elems.proofs.OneReading.{one_statement, never_both, one_fault}
use Rattle.blif_elems.proofs.laws.one_reading.Goals as goal

pub returns : goal.returns
returns c = record { says = one_statement; never = never_both; fault = one_fault }
