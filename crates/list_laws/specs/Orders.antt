-- Lists without equal elements, and lists in an order.
use Rattle.std.specs.Prelude.{◌≡◌, ◌<◌, ℕ, List, [], ◌∷◌, Some, slice_get}
use Rattle.vtr_base.specs.Lists.{Has}

-- nothing stands in the list twice
abbrev pub Once : {X : Type 0} → List X → Type 0
Once [] = Unit {0}
Once (x ∷ xs) = (Has xs x → ⊥) × Once xs

-- the same, by places
abbrev pub StandOnce : {X : Type 0} → List X → Type 0
StandOnce {X} xs =
    (i j : ℕ) (x : X) → slice_get xs i ≡ Some x → slice_get xs j ≡ Some x → i ≡ j

-- each element stands in this relation to each later one
abbrev pub Ordered : {X : Type 0} → (X → X → Type 0) → List X → Type 0
Ordered Before [] = Unit {0}
Ordered Before (x ∷ xs) = ((y : _) → Has xs y → Before x y) × Ordered Before xs

-- the same, by places
abbrev pub StandOrdered : {X : Type 0} → (X → X → Type 0) → List X → Type 0
StandOrdered {X} Before xs =
    (i j : ℕ) (x y : X) → i < j →
    slice_get xs i ≡ Some x → slice_get xs j ≡ Some y → Before x y

-- the lists have the same elements
pub record HaveSame {X : Type 0} (xs ys : List X) : Type 0 where
  pub forth : (x : X) → Has xs x → Has ys x
  pub back : (x : X) → Has ys x → Has xs x
