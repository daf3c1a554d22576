-- The names that were met among siblings.
use Rattle.std.specs.Prelude.{◌≡◌, ◌↔◌, ◌⊎◌, ℕ, Bool, true, false, List}
use Rattle.std.specs.BTreeSet.{BTreeSet, contains_by}
use Rattle.std.specs.Borrow.{Bor}
use Rattle.std.specs.Cmp.Lexicographic.{slice_cmp}
use Rattle.std.specs.Ordering.{nat_cmp}
use Rattle.elem_text.specs.declared.elem.Elem.{Elem}
use Rattle.arch_rules.specs.declared.role.Sort.{Sort}
use Rattle.arch_rules.specs.declared.role.Sort.TheVariants.{Units, Ports, Modes}
use Rattle.arch_rules.specs.declared.taken.Taken.{Taken}
use Rattle.arch_rules.specs.declared.role.Role.{Role}
use Rattle.arch_rules.specs.declared.role.Role.TheVariants.{Models, Tiles, Blocks}
use Rattle.arch_rules.specs.declared.walk.Lists.{Lists}
use Rattle.arch_rules.specs.Rules.{Inside, IsAmong}
use Rattle.arch_rules.specs.Walks.{cousins}

-- a set of texts holds this one
abbrev pub HoldsName : BTreeSet (Bor (List ℕ)) → List ℕ → Type 0
HoldsName seen name = contains_by (λ y. slice_cmp nat_cmp name y.now) seen ≡ true

abbrev pub set_of : Taken → Sort → BTreeSet (Bor (List ℕ))
set_of taken Units = taken.units
set_of taken Ports = taken.ports
set_of taken Modes = taken.modes

-- a name of this sort was met
abbrev pub IsMet : Taken → Sort → List ℕ → Type 0
IsMet taken sort name = HoldsName (set_of taken sort) name

-- a name came to those that were met, and was new or not
pub record IsAdded (old new : Taken) (sort : Sort) (name : List ℕ) (fresh : Bool) : Type 0 where
  pub fresh_is : fresh ≡ true → IsMet old sort name → ⊥
  pub stale_is : fresh ≡ false → IsMet old sort name
  pub met : (s : Sort) (n : List ℕ) → IsMet new s n ↔ (IsMet old s n ⊎ ((s ≡ sort) × (n ≡ name)))

-- the names that were met are those of these elements
abbrev pub Knows : Inside → Taken → List Elem → Type 0
Knows at taken before = (sort : Sort) (name : List ℕ) → IsMet taken sort name ↔ IsAmong at before sort name

abbrev pub list_of : Inside → Role → Inside
list_of at role = record { parent = role; owner = at.owner }

-- the names that were met in lists are those of the elements in the lists of each sort
pub record KnowsLists (at : Inside) (lists : Lists) (before : List Elem) : Type 0 where
  pub models : Knows (list_of at Models) lists.models (cousins Models before)
  pub tiles : Knows (list_of at Tiles) lists.tiles (cousins Tiles before)
  pub blocks : Knows (list_of at Blocks) lists.blocks (cousins Blocks before)
