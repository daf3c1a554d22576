-- Texts that mean one thing.
use Rattle.std.specs.Prelude.{◌≡◌, ℕ, List}
use Rattle.meta_lines.specs.declared.error.LineError.{LineError}

-- a text says one value at most, is refused in one way at most, and never both
pub record HasOneMeaning {V : Type 0} (Says : List ℕ → V → Type 0) (Refuses : List ℕ → LineError → Type 0) : Type 0 where
  pub one : (text : List ℕ) (a b : V) → Says text a → Says text b → a ≡ b
  pub refused : (text : List ℕ) (e f : LineError) → Refuses text e → Refuses text f → e ≡ f
  pub apart : (text : List ℕ) (a : V) (e : LineError) → Says text a → Refuses text e → ⊥
