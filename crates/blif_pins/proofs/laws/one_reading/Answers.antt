use Rattle.std.proofs.Common.{[]}
use Rattle.blif_pins.proofs.Pinning.{one_list}
use Rattle.blif_pins.proofs.laws.one_reading.Goals as goal

pub returns : goal.returns
returns c = λ model words ps qs a b. one_list c.one_reading.ensures model [] words ps qs a b
