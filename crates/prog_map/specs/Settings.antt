-- What choices are after one site was set: that site has its choice, and each other site, of the same
-- kind or another, has what it had.
use Rattle.std.specs.Prelude.{◌≡◌, ◌≢◌, ℕ, true, Some}
use Rattle.prog_map.specs.declared.choice.LutChoice.{LutChoice}
use Rattle.prog_map.specs.Choices.{Choices, mode_of, pick_of, is_used, lut_of}

pub record SetsMode (old new : Choices) (pb mode : ℕ) : Type 0 where
  pub here : mode_of new pb ≡ Some mode
  pub modes : (q : ℕ) → q ≢ pb → mode_of new q ≡ mode_of old q
  pub picks : (p m : ℕ) → pick_of new p m ≡ pick_of old p m
  pub uses : (q : ℕ) → is_used new q ≡ is_used old q
  pub luts : (q : ℕ) → lut_of new q ≡ lut_of old q

pub record SetsPick (old new : Choices) (pin mode edge : ℕ) : Type 0 where
  pub here : pick_of new pin mode ≡ Some edge
  pub picks : (p m : ℕ) → ((p ≡ pin) × (m ≡ mode) → ⊥) → pick_of new p m ≡ pick_of old p m
  pub modes : (q : ℕ) → mode_of new q ≡ mode_of old q
  pub uses : (q : ℕ) → is_used new q ≡ is_used old q
  pub luts : (q : ℕ) → lut_of new q ≡ lut_of old q

pub record SetsUsed (old new : Choices) (pb : ℕ) : Type 0 where
  pub here : is_used new pb ≡ true
  pub uses : (q : ℕ) → q ≢ pb → is_used new q ≡ is_used old q
  pub modes : (q : ℕ) → mode_of new q ≡ mode_of old q
  pub picks : (p m : ℕ) → pick_of new p m ≡ pick_of old p m
  pub luts : (q : ℕ) → lut_of new q ≡ lut_of old q

pub record SetsLut (old new : Choices) (pb : ℕ) (choice : LutChoice) : Type 0 where
  pub here : lut_of new pb ≡ Some choice
  pub luts : (q : ℕ) → q ≢ pb → lut_of new q ≡ lut_of old q
  pub modes : (q : ℕ) → mode_of new q ≡ mode_of old q
  pub picks : (p m : ℕ) → pick_of new p m ≡ pick_of old p m
  pub uses : (q : ℕ) → is_used new q ≡ is_used old q
