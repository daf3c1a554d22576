-- Metadata that says one thing.
use Rattle.std.specs.Prelude.{◌≡◌}
use Rattle.meta_block.specs.declared.error.MetaError.{MetaError}

-- one value at most is said, it is refused in one way at most, and never both
pub record HasOneAnswer {V : Type 0} (Says : V → Type 0) (Refuses : MetaError → Type 0) : Type 0 where
  pub one : (a b : V) → Says a → Says b → a ≡ b
  pub refused : (e f : MetaError) → Refuses e → Refuses f → e ≡ f
  pub apart : (a : V) (e : MetaError) → Says a → Refuses e → ⊥
