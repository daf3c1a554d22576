use Rattle.rr_tables.proofs.Sides.{found_kind}
use Rattle.rr_tables.proofs.laws.found_kinds.Goals as goal

pub returns : goal.returns
returns c = found_kind
