-- Bits of ports that are taken, each once.
use Rattle.std.specs.Prelude.{◌≡◌, ◌⊎◌, ℕ, Bool, true, false, List, [], ◌∷◌, ◌++◌, Some, map, slice_get}
use Rattle.vtr_base.specs.Lists.{Has}
use Rattle.blif_boxes.specs.Pins.{PinSaid}
use Rattle.blif_pins.specs.Pins.{Formal, formal}

-- a bit that wasn't taken is taken
abbrev pub TakesKey : List (ℕ × ℕ) → (ℕ × ℕ) → Bool → List (ℕ × ℕ) → Type 0
TakesKey old key is_new new =
    ((is_new ≡ true) × (Has {X = ℕ × ℕ} old key → ⊥) × (new ≡ old ++ key ∷ []))
    ⊎ ((is_new ≡ false) × Has {X = ℕ × ℕ} old key)

-- the formal, by the number of its port, is taken
abbrev pub IsTaken : List (List ℕ) → List (ℕ × ℕ) → Formal → Type 0
IsTaken names keys f = (n : ℕ) × (slice_get names n ≡ Some f.port) × Has {X = ℕ × ℕ} keys (n, f.bit)

-- what is taken are the formals of pins
pub record AreTaken (names : List (List ℕ)) (keys : List (ℕ × ℕ)) (pins : List PinSaid) : Type 0 where
  pub forth : (f : Formal) → IsTaken names keys f → Has (map formal pins) f
  pub back : (f : Formal) → Has (map formal pins) f → IsTaken names keys f
