-- The search for the members of a class.
use Rattle.std.specs.Prelude.{◌≡◌, ◌<◌, ◌+◌, ◌⊎◌, ◌↔◌, ℕ, zero, suc, Bool, true, false, not, List, ◌++◌, Some, length, slice_get, slice_index_or, count_by}
use Rattle.vtr_base.specs.Lists.{Has}
use Rattle.list_laws.specs.Orders.{Ordered, HaveSame}

-- the table lists the one number for the other
abbrev pub Lists : List (List ℕ) → ℕ → ℕ → Type 0
Lists table a b = (group : List ℕ) × (slice_get table a ≡ Some group) × Has group b

-- one of the tables does
abbrev pub IsNext : List (List ℕ) → List (List ℕ) → ℕ → ℕ → Type 0
IsNext nexts prevs a b = Lists nexts a b ⊎ Lists prevs a b

-- so many steps along the tables lead from the one number to the other
abbrev pub Steps : List (List ℕ) → List (List ℕ) → ℕ → ℕ → ℕ → Type 0
Steps nexts prevs zero a b = a ≡ b
Steps nexts prevs (suc steps) a b = (next : ℕ) × IsNext nexts prevs a next × Steps nexts prevs steps next b

abbrev pub Reaches : List (List ℕ) → List (List ℕ) → ℕ → ℕ → Type 0
Reaches nexts prevs a b = (steps : ℕ) × Steps nexts prevs steps a b

-- the tables have a list for each number below `count`, of such numbers, and list both ways round
pub record AreTables (nexts prevs : List (List ℕ)) (count : ℕ) : Type 0 where
  pub next_long : length nexts ≡ count
  pub prev_long : length prevs ≡ count
  pub low : (a b : ℕ) → IsNext nexts prevs a b → b < count
  pub turned : (a b : ℕ) → IsNext nexts prevs a b → IsNext nexts prevs b a

abbrev pub IsSeen : List Bool → ℕ → Type 0
IsSeen seen a = slice_index_or seen a false ≡ true

abbrev pub IsFresh : List Bool → ℕ → Type 0
IsFresh seen a = slice_index_or seen a false ≡ false

-- what follows a number that was seen was seen
abbrev pub AreClosed : List (List ℕ) → List (List ℕ) → List Bool → Type 0
AreClosed nexts prevs seen = (a b : ℕ) → IsSeen seen a → IsNext nexts prevs a b → IsSeen seen b

abbrev pub unseen : List Bool → ℕ
unseen seen = count_by not seen

-- those of the numbers that weren't seen go last, and are seen now
pub record Pushes (others members more : List ℕ) (old new : List Bool) : Type 0 where
  pub added : List ℕ
  pub are : more ≡ members ++ added
  pub fresh : (a : ℕ) → Has added a → Has others a × IsFresh old a
  pub seen : (a : ℕ) → IsSeen new a ↔ (IsSeen old a ⊎ Has added a)
  pub all : (a : ℕ) → Has others a → IsSeen new a
  pub count : unseen new + length more ≡ unseen old + length members
  pub long : length new ≡ length old

-- exactly the numbers that can be reached from the root are seen besides
pub record Spreads (nexts prevs : List (List ℕ)) (root : ℕ) (old new : List Bool) (members : List ℕ) :
    Type 0 where
  pub root_in : Has members root
  pub reached : (a : ℕ) → Has members a → Reaches nexts prevs root a
  pub closed : (a b : ℕ) → Has members a → IsNext nexts prevs a b → Has members b
  pub fresh : (a : ℕ) → Has members a → IsFresh old a
  pub seen : (a : ℕ) → IsSeen new a ↔ (IsSeen old a ⊎ Has members a)
  pub long : length new ≡ length old

-- the same numbers, each once, ascending
pub record IsClassOf (members class : List ℕ) : Type 0 where
  pub ascend : Ordered ◌<◌ class
  pub same : HaveSame class members
