-- The name of an owner of metadata, as it is printed.
use Rattle.std.specs.Prelude.{ℕ, List, [], ◌∷◌, ◌++◌}
use Rattle.std.specs.List.{flat_map}

-- names joined by `/`
abbrev pub way_text : List (List ℕ) → List ℕ
way_text [] = []
way_text (name ∷ names) = name ++ flat_map (λ n. 47 ∷ n) names
