-- Nets and atoms have one fault of a kind at most.
use Rattle.std.specs.Prelude.{◌≡◌, ℕ, List, length}
use Rattle.net_types.specs.declared.atom.Atom.{Atom}
use Rattle.net_types.specs.WellFormed.{HaveRanks}
use Rattle.net_faults.specs.Drivers.{IsFirstUnmade, AreMade}
use Rattle.net_faults.specs.Loops.{IsLeastLoop}

pub record HasOneFault : Type 0 where
  pub unmade : (nets : List (List ℕ)) (atoms : List Atom) (name other : List ℕ) →
      IsFirstUnmade nets atoms name → IsFirstUnmade nets atoms other → name ≡ other
  pub made : (nets : List (List ℕ)) (atoms : List Atom) (name : List ℕ) →
      AreMade (length nets) atoms → IsFirstUnmade nets atoms name → ⊥
  pub loop : (atoms : List Atom) (names others : List (List ℕ)) →
      IsLeastLoop atoms names → IsLeastLoop atoms others → names ≡ others
  pub ranked : (atoms : List Atom) (names : List (List ℕ)) →
      HaveRanks atoms → IsLeastLoop atoms names → ⊥
