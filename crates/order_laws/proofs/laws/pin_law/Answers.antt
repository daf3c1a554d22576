use Rattle.order_laws.proofs.Keeping.{pins_keep}
use Rattle.order_laws.proofs.laws.pin_law.Goals as goal

pub returns : goal.returns
returns c = pins_keep
