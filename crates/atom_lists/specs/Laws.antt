-- Laws of the text of a list of atoms.
use Rattle.std.specs.Prelude.{◌≡◌, ◌⊎◌, ℕ, List}
use Rattle.net_types.specs.declared.atom.Atom.{Atom}
use Rattle.atom_lists.specs.declared.error.TaskError.{TaskError}
use Rattle.atom_lists.specs.declared.error.TaskError.TheVariants.{OutOfMemory}
use Rattle.atom_lists.specs.Lists.{SpellsAtoms, RefusesAtoms}

-- a text spells one list at most
abbrev pub SpellsOneList : List Atom → Type 0
SpellsOneList atoms = (bytes xs ys : List ℕ) → SpellsAtoms atoms bytes xs → SpellsAtoms atoms bytes ys → xs ≡ ys

-- a text that spells a list is refused by want of memory alone
abbrev pub IsReadWhereSpelled : List Atom → Type 0
IsReadWhereSpelled atoms =
    (bytes numbers : List ℕ) (e : TaskError) → SpellsAtoms atoms bytes numbers → RefusesAtoms atoms bytes e → e ≡ OutOfMemory

-- a text is refused in one way, or by want of memory
abbrev pub RefusesInOneWay : List Atom → Type 0
RefusesInOneWay atoms =
    (bytes : List ℕ) (e f : TaskError) → RefusesAtoms atoms bytes e → RefusesAtoms atoms bytes f →
    (e ≡ f) ⊎ ((e ≡ OutOfMemory) ⊎ (f ≡ OutOfMemory))
