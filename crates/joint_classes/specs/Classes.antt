-- Classes of joined numbers.
use Rattle.std.specs.Prelude.{◌≡◌, ◌<◌, ◌⊎◌, ◌↔◌, ℕ, zero, suc, List}
use Rattle.vtr_base.specs.Lists.{Has}
use Rattle.list_laws.specs.Orders.{Ordered}

-- a joint of the two numbers is listed, one way round or the other
abbrev pub AreJoined : List (ℕ × ℕ) → ℕ → ℕ → Type 0
AreJoined joints a b = Has {X = ℕ × ℕ} joints (a, b) ⊎ Has {X = ℕ × ℕ} joints (b, a)

-- so many joints lead from the one number to the other
abbrev pub Lead : List (ℕ × ℕ) → ℕ → ℕ → ℕ → Type 0
Lead joints zero a b = a ≡ b
Lead joints (suc steps) a b = (next : ℕ) × AreJoined joints a next × Lead joints steps next b

-- joints lead from the one number to the other
abbrev pub AreConnected : List (ℕ × ℕ) → ℕ → ℕ → Type 0
AreConnected joints a b = (steps : ℕ) × Lead joints steps a b

-- some number of the one class stands before all of the other
abbrev pub ComesFirst : List ℕ → List ℕ → Type 0
ComesFirst class other = (a : ℕ) × Has class a × ((b : ℕ) → Has other b → a < b)

-- the classes of the numbers below `count` that are connected in this way, by their first numbers;
-- the numbers of a class ascend
pub record AreClassesBy (Connected : ℕ → ℕ → Type 0) (count : ℕ) (classes : List (List ℕ)) :
    Type 0 where
  pub all : (a : ℕ) → a < count → (class : List ℕ) × Has classes class × Has class a
  pub low : (class : List ℕ) (a : ℕ) → Has classes class → Has class a → a < count
  pub some : (class : List ℕ) → Has classes class → (a : ℕ) × Has class a
  pub ascend : (class : List ℕ) → Has classes class → Ordered ◌<◌ class
  pub joined : (class : List ℕ) (a b : ℕ) → Has classes class → Has class a →
      Has class b ↔ Connected a b
  pub order : Ordered ComesFirst classes

-- the classes of joined numbers
abbrev pub AreClasses : ℕ → List (ℕ × ℕ) → List (List ℕ) → Type 0
AreClasses count joints classes = AreClassesBy (AreConnected joints) count classes
