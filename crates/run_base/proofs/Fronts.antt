-- Fronts of a text that is put in pieces.
use Rattle.std.proofs.Common.{◌≡◌, ℕ, List, ◌++◌, append_assoc, Option, Some, None, refl, sym, ap, ◌∙◌}
use Rattle.vtr_base.specs.Outside.{written, WrittenPart}

pub front_begins : (piece rest : List ℕ) (old new : Option (List ℕ)) → WrittenPart piece old new → WrittenPart (piece ++ rest) old new
front_begins piece rest old new part =
    (part.0, part.1 ++ rest, ap (λ l. l ++ rest) part.2 ∙ append_assoc part.0 part.1 rest, part.3)

twice : (piece front : List ℕ) (old : Option (List ℕ)) → written front (written piece old) ≡ written (piece ++ front) old
twice piece front None = refl
twice piece front (Some bytes) = ap Some (append_assoc bytes piece front)

pub front_goes_on : (piece rest : List ℕ) (old mid new : Option (List ℕ)) → mid ≡ written piece old → WrittenPart rest mid new
    → WrittenPart (piece ++ rest) old new
front_goes_on piece rest old mid new is part = (
  piece ++ part.0,
  part.1,
  ap (λ l. piece ++ l) part.2 ∙ sym (append_assoc piece part.0 part.1),
  part.3 ∙ ap (written part.0) is ∙ twice piece part.0 old,
)
