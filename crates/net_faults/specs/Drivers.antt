-- Nets that no atom makes.
use Rattle.std.specs.Prelude.{◌≡◌, ◌<◌, ℕ, List, Some, slice_get}
use Rattle.net_types.specs.declared.atom.Atom.{Atom}
use Rattle.net_types.specs.Ends.{IsDriver}

-- some atom makes the net
abbrev pub IsMade : List Atom → ℕ → Type 0
IsMade atoms net = (number : ℕ) × IsDriver atoms net number

-- of the nets that no atom makes the one with the least number, by its name
pub record IsFirstUnmade (nets : List (List ℕ)) (atoms : List Atom) (name : List ℕ) : Type 0 where
  pub net : ℕ
  pub named : slice_get nets net ≡ Some name
  pub unmade : IsMade atoms net → ⊥
  pub before : (other : ℕ) → other < net → IsMade atoms other

-- each net is made
abbrev pub AreMade : ℕ → List Atom → Type 0
AreMade nets atoms = (net : ℕ) → net < nets → IsMade atoms net
