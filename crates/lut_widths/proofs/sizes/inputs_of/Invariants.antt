use Rattle.std.proofs.Common.{take}
use Rattle.lut_widths.proofs.Porting.{LacksInputs}
use Rattle.lut_widths.proofs.sizes.inputs_of.Given as goal

abbrev pub invariant-loop-port : goal.invariant-loop-port
invariant-loop-port l = LacksInputs (take l.port-index l.ports)
