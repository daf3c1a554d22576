-- Sets of numbers below a limit, in the order in which they came.
use Rattle.std.specs.Prelude.{◌≡◌, ℕ, List, [], ◌∷◌, ◌++◌}
use Rattle.vtr_base.specs.Lists.{Has}

pub record Held : Type 0 where
  pub items : List ℕ
  pub room : ℕ  -- the numbers are below it

abbrev pub held_on : List ℕ → ℕ → Held
held_on items room = record { items = items; room = room }

-- the number wasn't there, and stands last now
pub record Joins (old new : Held) (number : ℕ) : Type 0 where
  pub apart : Has old.items number → ⊥
  pub is : new ≡ held_on (old.items ++ number ∷ []) old.room

-- the number was there, and all is as before
pub record Stays (old new : Held) (number : ℕ) : Type 0 where
  pub there : Has old.items number
  pub is : new ≡ old
