use Rattle.blif_boxes.proofs.Wording.{one_pin}
use Rattle.blif_boxes.proofs.laws.one_reading.Goals as goal

pub returns : goal.returns
returns c = one_pin
