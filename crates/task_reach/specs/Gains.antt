-- Lists that grow by what is of some kind.
use Rattle.std.specs.Prelude.{◌≡◌, ◌<◌, ◌++◌, ℕ, List, Some, slice_get}
use Rattle.vtr_base.specs.Lists.{Has}

-- the list has grown by numbers of that kind, and has all of them now
pub record Gains (old new : List ℕ) (Is : ℕ → Type 0) : Type 0 where
  pub more : List ℕ
  pub is : new ≡ old ++ more
  pub each : (number : ℕ) → Has more number → Is number
  pub all : (number : ℕ) → Is number → Has new number

-- the number comes from one of the first `n` places
pub record FromFirst (From : ℕ → ℕ → Type 0) (n number : ℕ) : Type 0 where
  pub place : ℕ
  pub before : place < n
  pub from : From place number

-- the number comes from what stands at that place of the list
pub record FromItem {X : Type 0} (xs : List X) (From : X → ℕ → Type 0) (place number : ℕ) : Type 0 where
  pub item : X
  pub is : slice_get xs place ≡ Some item
  pub from : From item number
