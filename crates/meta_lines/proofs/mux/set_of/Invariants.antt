use Rattle.std.proofs.Common.{take}
use Rattle.meta_lines.specs.Inputs.{HaveSame}
use Rattle.meta_lines.proofs.mux.set_of.Given as goal

abbrev pub invariant-loop-pin : goal.invariant-loop-pin
invariant-loop-pin l = HaveSame l.set.keys (take l.pin-index l.pins)
