use Rattle.std.proofs.Common.{◌≡◌, ◌++◌, length, IsUtf8}
use Rattle.elem_text.specs.References.{decoded}
use Rattle.elem_text.proofs.references.push_decoded.Given as goal

-- the text so far, and what the rest stands for, are what all stands for
abbrev pub invariant-loop-rest : goal.invariant-loop-rest
invariant-loop-rest l = record {
  utf8 : IsUtf8 l.rest;
  so_far : l.out ++ decoded l.rest ≡ l.initial.out ++ decoded l.raw;
}

abbrev pub decreases-loop-rest : goal.decreases-loop-rest
decreases-loop-rest l = length l.rest
