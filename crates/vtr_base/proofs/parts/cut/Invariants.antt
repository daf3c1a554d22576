use Rattle.std.proofs.Common.{take}
use Rattle.vtr_base.specs.Spans.{Lacks}
use Rattle.vtr_base.proofs.parts.cut.Given as goal

abbrev pub invariant-loop-i : goal.invariant-loop-i
invariant-loop-i l = Lacks (take l.i l.text) l.byte
