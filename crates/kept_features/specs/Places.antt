-- Features that are kept, by their places.
use Rattle.std.specs.Prelude.{◌≡◌, ℕ, List, [], ◌∷◌, ◌++◌, Some, slice_get}
use Rattle.meta_lines.specs.declared.types.Feature.{Feature}
use Rattle.meta_lines.specs.Each.{Each}
use Rattle.kept_features.specs.Firsts.{KeepsFirsts}

-- these features stand at these places of the list
abbrev pub StandAt : List Feature → List ℕ → List Feature → Type 0
StandAt all places fs = Each (λ place (f : Feature). slice_get all place ≡ Some f) places fs

-- the places are those, in the list, of the features that are kept of these
pub record KeepsAt (all fs : List Feature) (places : List ℕ) : Type 0 where
  pub kept : List Feature
  pub stand : StandAt all places kept
  pub keeps : KeepsFirsts fs kept

-- the same with one feature more, which stands at that place
abbrev pub AddsAt : List Feature → List Feature → Feature → ℕ → List ℕ → List ℕ → Type 0
AddsAt all before f place old new =
    slice_get all place ≡ Some f → KeepsAt all before old → KeepsAt all (before ++ f ∷ []) new
