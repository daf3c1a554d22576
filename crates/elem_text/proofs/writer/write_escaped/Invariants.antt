use Rattle.elem_text.specs.Written.{escape}
use Rattle.elem_text.proofs.Parts.{AreWritten}
use Rattle.elem_text.proofs.writer.write_escaped.Given as goal

abbrev pub invariant-loop-b : goal.invariant-loop-b
invariant-loop-b l = AreWritten escape l.b-items l.b-index l.initial.out.items l.out.items
