-- NamePlaces of names in a list.
use Rattle.std.specs.Prelude.{◌≡◌, ℕ, suc, Bool, if◌then◌else◌, List, [], ◌∷◌, Option, Some, None, length}
use Rattle.std.specs.Borrow.{Bor}
use Rattle.std.specs.Option.{option_map, option_map_or, option_or}
use Rattle.std.specs.HashMap.{HashMap, get}
use Rattle.std.specs.Str.{bytes_eq}

-- the first place at which the name stands
abbrev pub found_place : List (List ℕ) → List ℕ → Option ℕ
found_place [] name = None
found_place (n ∷ names) name = if bytes_eq n name then Some 0 else option_map suc (found_place names name)

-- that place; the length of the list where the name doesn't stand in it
abbrev pub place_of : List (List ℕ) → List ℕ → ℕ
place_of names name = option_map_or (λ (place : ℕ). place) (found_place names name) (length names)

-- two keys are one
abbrev pub same_key : Bor (List ℕ) → Bor (List ℕ) → Bool
same_key x y = bytes_eq x.now y.now

-- the table holds of each name its first place
pub record ArePlaces {S : Type 0} (names : List (List ℕ)) (first : HashMap (Bor (List ℕ)) ℕ S) : Type 0 where
  pub find : (q : Bor (List ℕ)) → get same_key first q ≡ found_place names q.now

-- a table got the place of a name, unless it had one
pub record AddsPlace {S : Type 0} (name : List ℕ) (place : ℕ) (old new : HashMap (Bor (List ℕ)) ℕ S) : Type 0 where
  pub find : (q : Bor (List ℕ)) → get same_key new q ≡ option_or (get same_key old q) (if bytes_eq name q.now then Some place else None)
