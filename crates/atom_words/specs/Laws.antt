-- The names of nets and atoms are words.
use Rattle.std.specs.Prelude.{◌≡◌, ℕ, List, Some, slice_get}
use Rattle.net_types.specs.declared.atom.Atom.{Atom}
use Rattle.net_types.specs.Words.{IsWord}

abbrev pub AreNetWords : List (List ℕ) → Type 0
AreNetWords nets = (number : ℕ) (name : List ℕ) → slice_get nets number ≡ Some name → IsWord name

abbrev pub AreAtomWords : List Atom → Type 0
AreAtomWords atoms = (number : ℕ) (atom : Atom) → slice_get atoms number ≡ Some atom → IsWord atom.name
