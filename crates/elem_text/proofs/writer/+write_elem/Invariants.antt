use Rattle.std.proofs.Common.{drop, IsUtf8}
use Rattle.std.specs.List.{flat_map}
use Rattle.elem_text.specs.Written.{text_of}
use Rattle.elem_text.proofs.Parts.{AreWritten}
use Rattle.elem_text.proofs.writer.+write_elem.Given as goal

-- all is text if what is still to come is
abbrev pub invariant-loop-kid : goal.invariant-loop-kid
invariant-loop-kid l = record {
  written : AreWritten text_of l.kid-items l.kid-index l.initial.out.items l.out.items;
  utf8 : IsUtf8 (flat_map text_of (drop l.kid-index l.kid-items)) → IsUtf8 (flat_map text_of l.kid-items);
}
