use Rattle.std.proofs.Common.{drop, IsUtf8}
use Rattle.std.specs.List.{flat_map}
use Rattle.elem_text.specs.Written.{attr_text}
use Rattle.elem_text.proofs.Parts.{AreWritten}
use Rattle.elem_text.proofs.writer.write_attrs.Given as goal

-- all is text if what is still to come is
abbrev pub invariant-loop-attr : goal.invariant-loop-attr
invariant-loop-attr l = record {
  written : AreWritten attr_text l.attrs l.attr-index l.initial.out.items l.out.items;
  utf8 : IsUtf8 (flat_map attr_text (drop l.attr-index l.attrs)) → IsUtf8 (flat_map attr_text l.attrs);
}
