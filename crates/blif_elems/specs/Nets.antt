-- The names of nets.
use Rattle.std.specs.Prelude.{◌≡◌, ◌⊎◌, ℕ, List, ◌++◌, codes}
use Rattle.std.specs.List.{All}

-- other files use these words for something else
abbrev pub IsReserved : List ℕ → Type 0
IsReserved name =
    (name ≡ codes "open") ⊎ ((rest : List ℕ) × (name ≡ codes "Netlist_File:" ++ rest))

abbrev pub IsNet : List ℕ → Type 0
IsNet name = IsReserved name → ⊥

abbrev pub AreNets : List (List ℕ) → Type 0
AreNets names = All IsNet names
