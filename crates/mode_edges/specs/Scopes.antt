-- The names in sight of the pin words of a mode of a pb_type, each with its first place in its list.
use Rattle.std.specs.Prelude.{◌≡◌, ◌⊎◌, ℕ, List, [], ◌∷◌, ◌++◌, Option, Some, map, slice_get, MatchOption}
use Rattle.std.specs.Borrow.{Bor}
use Rattle.vtr_base.specs.Lists.{Has, IsFirstPlace}
use Rattle.arch_types.specs.declared.block.PbType.{PbType}
use Rattle.indexmap.specs.IndexMap.{IndexMap}
use Rattle.arch_types.specs.declared.block.Mode.{Mode}

abbrev pub Named : Type 0
Named = List ℕ × ℕ

-- the names of a map with their places
abbrev pub places_in : {S : Type 0} → IndexMap (Bor (List ℕ)) ℕ S → List Named
places_in index = map (λ entry. (entry.0.now, entry.1)) index.entries

-- each name of the list stands with its first place
pub record IsIndex (names : List (List ℕ)) (places : List Named) : Type 0 where
  pub first : (name : List ℕ) (place : ℕ) → Has places (name, place) → IsFirstPlace names name place
  pub all : (name : List ℕ) (n : ℕ) → slice_get names n ≡ Some name → (place : ℕ) × Has places (name, place)

-- the name is there and nothing changes, or it goes last
abbrev pub AddsName : List Named → List Named → List ℕ → ℕ → Type 0
AddsName old new name place =
    (((q : ℕ) × Has old (name, q)) × (new ≡ old)) ⊎ (((q : ℕ) → Has old (name, q) → ⊥) × (new ≡ old ++ (name, place) ∷ []))

-- the place that stands with the name, or none
abbrev pub FindsName : List Named → List ℕ → Option ℕ → Type 0
FindsName places name found = MatchOption found ((q : ℕ) → Has places (name, q) → ⊥) (λ place. Has places (name, place))

-- a mode of a pb_type, with the pb_type
pub record ModeOf : Type 0 where
  pub block : PbType
  pub mode : Mode
