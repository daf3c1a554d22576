use Rattle.std.proofs.Common.{length, IsUtf8}
use Rattle.elem_text.specs.Stack.{stack_of}
use Rattle.elem_text.proofs.Along.{Along}
use Rattle.elem_text.proofs.reader.read_body.Given as goal

abbrev pub invariant-loop-rest : goal.invariant-loop-rest
invariant-loop-rest l = record {
  along : Along l.fn.start l.bytes l.place l.rest (stack_of l.opened);
  utf8 : IsUtf8 l.rest;
}

abbrev pub decreases-loop-rest : goal.decreases-loop-rest
decreases-loop-rest l = length l.rest
