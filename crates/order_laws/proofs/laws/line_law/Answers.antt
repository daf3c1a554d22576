use Rattle.order_laws.proofs.Keeping.{lines_keep}
use Rattle.order_laws.proofs.laws.line_law.Goals as goal

pub returns : goal.returns
returns c = lines_keep
