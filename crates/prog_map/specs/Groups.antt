-- Numbers grouped by an instance and one of its modes.
use Rattle.std.specs.Prelude.{◌≡◌, ◌==◌, ◌&&◌, ◌+◌, ◌++◌, ℕ, Bool, List, [], ◌∷◌, if◌then◌else◌}
use Rattle.std.specs.Option.{option_map_or}
use Rattle.std.specs.HashMap.{HashMap, get}
use Rattle.pb_expand.specs.Graph.{pb_ix}
use Rattle.prog_map.specs.declared.groups.ModeAt.{ModeAt}

-- two modes are one
abbrev pub same_mode : ModeAt → ModeAt → Bool
same_mode m n = (m.pb.0 == n.pb.0) && (m.mode == n.mode)

abbrev pub mode_ix : ℕ → ℕ → ModeAt
mode_ix pb mode = record { pb = pb_ix pb; mode = mode }

-- what a table of groups holds for a mode; nothing where it has no entry
abbrev pub grouped : {S : Type 0} → HashMap ModeAt (List ℕ) S → ℕ → ℕ → List ℕ
grouped groups pb mode = option_map_or (λ (numbers : List ℕ). numbers) (get same_mode groups (mode_ix pb mode)) []

-- the number comes behind those of each mode that passes the test
abbrev pub GetsNumber : {S : Type 0} → HashMap ModeAt (List ℕ) S → HashMap ModeAt (List ℕ) S → (ℕ → ℕ → Bool) → ℕ → Type 0
GetsNumber old new test number =
    (pb mode : ℕ) → grouped new pb mode ≡ grouped old pb mode ++ (if test pb mode then number ∷ [] else [])

-- the places, counted from n on, of the elements that pass a test
abbrev pub places_from : {X : Type 0} → (ℕ → X → Bool) → ℕ → List X → List ℕ
places_from p n [] = []
places_from p n (x ∷ xs) = if p n x then n ∷ places_from p (n + 1) xs else places_from p (n + 1) xs
