-- What a step through the attributes of a start tag finds.
use Rattle.std.specs.Prelude.{◌≢◌, ℕ, List, [], IsUtf8}
use Rattle.elem_text.specs.declared.elem.Attr.{Attr}
use Rattle.elem_text.specs.declared.tags.Next.{Next}
use Rattle.elem_text.specs.declared.tags.Next.TheVariants.{End, Attr as an_attr}
use Rattle.elem_text.specs.Bytes.{is_white, IsSpan}
use Rattle.elem_text.specs.Grammar.{HasName, IsAttr, tail_of}

-- behind white space the tag ends, or an attribute stands whose name none of those before has
abbrev pub IsNext : List Attr → List ℕ → Next → Type 0
IsNext before bytes (End end) = (gap : List ℕ) × IsSpan is_white bytes gap (tail_of end.empty end.rest.now)
IsNext before bytes (an_attr r) =
    (gap rest : List ℕ) × IsSpan is_white bytes gap rest × (gap ≢ []) × IsAttr rest r.name.now r.raw.now r.after.now
    × (HasName before r.name.now → ⊥)

abbrev pub IsUtf8Next : Next → Type 0
IsUtf8Next (End end) = IsUtf8 end.rest.now
IsUtf8Next (an_attr r) = IsUtf8 r.name.now × IsUtf8 r.raw.now × IsUtf8 r.after.now
