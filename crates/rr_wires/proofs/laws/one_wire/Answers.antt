use Rattle.rr_wires.proofs.SoundGraphs.{wires_told}
use Rattle.rr_wires.proofs.laws.one_wire.Goals as goal

pub returns : goal.returns
returns c = wires_told
