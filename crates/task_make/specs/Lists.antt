-- Lists of atoms, by their numbers, and the first rule that a list breaks.
use Rattle.std.specs.Prelude.{◌≡◌, ◌≤◌, ◌<◌, ℕ, List, Some, length, take, slice_get}
use Rattle.vtr_base.specs.Lists.{Has}
use Rattle.list_laws.specs.Orders.{Once}
use Rattle.net_types.specs.declared.atom.Atom.{Atom}
use Rattle.atom_lists.specs.declared.error.TaskError.{TaskError}
use Rattle.atom_lists.specs.declared.error.TaskError.TheVariants.{NoSuchAtom, Twice, TooManyAtoms, OutOfMemory}

-- different atoms of the netlist
pub record AreAtoms (known : List Atom) (atoms : List ℕ) : Type 0 where
  pub there : (number : ℕ) → Has atoms number → number < length known
  pub once : Once atoms

-- there are at most 4,096 entries, those before this place are different atoms, and this number
-- stands there
pub record IsFirstWrong (known : List Atom) (atoms : List ℕ) (place number : ℕ) : Type 0 where
  pub few : length atoms ≤ 4096
  pub before : AreAtoms known (take place atoms)
  pub is : slice_get atoms place ≡ Some number

-- the first entry that is wrong is the one at this place, which is no atom
pub record IsNoAtom (known : List Atom) (atoms : List ℕ) (place : ℕ) : Type 0 where
  pub number : ℕ
  pub wrong : IsFirstWrong known atoms place number
  pub past : length known ≤ number

-- the first entry that is wrong is the one at this place, which an earlier one is, too
pub record IsAgain (known : List Atom) (atoms : List ℕ) (place : ℕ) : Type 0 where
  pub number : ℕ
  pub wrong : IsFirstWrong known atoms place number
  pub again : Has (take place atoms) number

-- the list is refused, and this says why; want of memory may come at any list
abbrev pub Refuses : List Atom → List ℕ → TaskError → Type 0
Refuses known atoms (NoSuchAtom place) = IsNoAtom known atoms place
Refuses known atoms (Twice place) = IsAgain known atoms place
Refuses known atoms TooManyAtoms = 4096 < length atoms
Refuses known atoms OutOfMemory = Unit {0}
