-- Words on lists that definitions of formats and fabrics share.
use Rattle.std.specs.Prelude.{◌≡◌, ◌<◌, ◌+◌, ◌⊎◌, ℕ, zero, suc, List, [], ◌∷◌, Some, slice_get}

-- x stands in the list
abbrev pub Has : {X : Type 0} → List X → X → Type 0
Has [] x = ⊥
Has (y ∷ ys) x = (x ≡ y) ⊎ Has ys x

-- k numbers from n on, ascending by one
abbrev pub up_from : ℕ → ℕ → List ℕ
up_from n zero = []
up_from n (suc k) = n ∷ up_from (n + 1) k

-- the first place at which x stands
pub record IsFirstPlace {X : Type 0} (xs : List X) (x : X) (place : ℕ) : Type 0 where
  pub there : slice_get xs place ≡ Some x
  pub first : (k : ℕ) → k < place → slice_get xs k ≡ Some x → ⊥
