use Rattle.std.proofs.Common.{length, IsUtf8}
use Rattle.elem_text.proofs.Attrs.{Reading}
use Rattle.elem_text.proofs.tags.tag_rest.Given as goal

abbrev pub invariant-attrs : goal.invariant-attrs
invariant-attrs l = record {
  reading : Reading l.bytes l.attrs l.left;
  utf8 : IsUtf8 l.left;
}

abbrev pub decreases-attrs : goal.decreases-attrs
decreases-attrs l = length l.left
