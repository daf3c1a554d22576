use Rattle.rr_tables.proofs.Fitting.{types_fit}
use Rattle.rr_tables.proofs.laws.types_fit.Goals as goal

pub returns : goal.returns
returns c = λ a root types well are. types_fit a well root types are
