-- Lists of atoms, by their names, and the first rule that a list breaks.
use Rattle.std.specs.Prelude.{◌≡◌, ◌≤◌, ◌<◌, ◌==◌, not, ℕ, List, Some, length, map, filter, slice_get}
use Rattle.std.specs.Str.Lines.{lines}
use Rattle.vtr_base.specs.Lists.{Has, IsFirstPlace}
use Rattle.list_laws.specs.Orders.{Once}
use Rattle.net_types.specs.declared.atom.Atom.{Atom}
use Rattle.atom_lists.specs.declared.error.TaskError.{TaskError}
use Rattle.atom_lists.specs.declared.error.TaskError.TheVariants.{NoSuchAtom, Twice, TooManyAtoms, OutOfMemory}

-- the names of atoms, by number
abbrev pub names_of : List Atom → List (List ℕ)
names_of atoms = map (λ (a : Atom). a.name) atoms

-- the entries of a file: its lines, without those that are empty
abbrev pub entries_of : List ℕ → List (List ℕ)
entries_of bytes = filter (λ line. not (length line == 0)) (lines bytes)

-- the entries are the names of the atoms with these numbers, at most 4,096 different ones; `known`
-- has the names of all atoms
pub record SpellAtoms (known entries : List (List ℕ)) (numbers : List ℕ) : Type 0 where
  pub named : map (λ (n : ℕ). slice_get known n) numbers ≡ map (λ entry. Some entry) entries
  pub once : Once numbers
  pub few : length numbers ≤ 4096

-- the entry at this place is an atom's name, and no earlier one is the same
pub record IsFresh (known entries : List (List ℕ)) (place : ℕ) : Type 0 where
  pub entry : List ℕ
  pub first : IsFirstPlace entries entry place
  pub is_known : Has known entry

-- there are at most 4,096 entries, and those before this place are names of different atoms
pub record AreFineBefore (known entries : List (List ℕ)) (place : ℕ) : Type 0 where
  pub few : length entries ≤ 4096
  pub fresh : (k : ℕ) → k < place → IsFresh known entries k

-- the first entry that is wrong is the one at this place, which no atom has as its name
pub record IsUnknown (known entries : List (List ℕ)) (place : ℕ) : Type 0 where
  pub before : AreFineBefore known entries place
  pub entry : List ℕ
  pub there : slice_get entries place ≡ Some entry
  pub unknown : Has known entry → ⊥

-- the first entry that is wrong is the one at this place, which an earlier one is, too
pub record IsAgain (known entries : List (List ℕ)) (place : ℕ) : Type 0 where
  pub before : AreFineBefore known entries place
  pub entry : List ℕ
  pub there : slice_get entries place ≡ Some entry
  pub earlier : ℕ
  pub is_earlier : earlier < place
  pub same : slice_get entries earlier ≡ Some entry

-- the entries are no list of atoms, and this says why
abbrev pub Refuses : List (List ℕ) → List (List ℕ) → TaskError → Type 0
Refuses known entries (NoSuchAtom place) = IsUnknown known entries place
Refuses known entries (Twice place) = IsAgain known entries place
Refuses known entries TooManyAtoms = 4096 < length entries
Refuses known entries OutOfMemory = Unit {0}

-- there are too many entries; or memory ran out
abbrev pub IsTooLong : List (List ℕ) → TaskError → Type 0
IsTooLong entries (NoSuchAtom place) = ⊥
IsTooLong entries (Twice place) = ⊥
IsTooLong entries TooManyAtoms = 4096 < length entries
IsTooLong entries OutOfMemory = Unit {0}

-- the bytes spell the list of these atoms
abbrev pub SpellsAtoms : List Atom → List ℕ → List ℕ → Type 0
SpellsAtoms atoms bytes numbers = SpellAtoms (names_of atoms) (entries_of bytes) numbers

-- the bytes spell no list of atoms, and this says why
abbrev pub RefusesAtoms : List Atom → List ℕ → TaskError → Type 0
RefusesAtoms atoms bytes e = Refuses (names_of atoms) (entries_of bytes) e
