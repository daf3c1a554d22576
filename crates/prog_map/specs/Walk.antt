-- A walk along a relation that leads from a pin to the one before it.
use Rattle.std.specs.Prelude.{◌≡◌, ◌<◌, ◌⊎◌, ℕ, zero, suc, List, [], ◌∷◌, Option, Some, None, length, slice_get}
use Rattle.vtr_base.specs.Lists.{Has}
use Rattle.pb_expand.specs.declared.number.PinIx.{PinIx}
use Rattle.pb_expand.specs.Graph.{Graph}
use Rattle.prog_map.specs.Choices.{Choices}
use Rattle.prog_map.specs.Back.{StepsBack}

-- a walk from `start` to `last` that meets no pin twice; `later` are the pins after `start`
abbrev pub IsWalk : (ℕ → ℕ → Type 0) → ℕ → ℕ → List ℕ → Type 0
IsWalk Step start last [] = last ≡ start
IsWalk Step start last (next ∷ later) = Step start next × (Has (next ∷ later) start → ⊥) × IsWalk Step next last later

-- the last pin of the walk from `start`: no step leads on, or one leads to a pin that the walk has met
pub record IsLast (Step : ℕ → ℕ → Type 0) (start last : ℕ) : Type 0 where
  pub later : List ℕ
  pub walk : IsWalk Step start last later
  pub ends : ((pin : ℕ) → Step last pin → ⊥) ⊎ ((pin : ℕ) × Step last pin × Has (start ∷ later) pin)

-- so many steps back lead from the pin to the source
abbrev pub CarriedIn : Graph → Choices → ℕ → ℕ → ℕ → Type 0
CarriedIn g c zero pin source = pin ≡ source
CarriedIn g c (suc steps) pin source = (q : ℕ) × StepsBack g c pin q × CarriedIn g c steps q source

-- the pin is carried from the source: zero or more steps back lead from it there
pub record Carried (g : Graph) (c : Choices) (pin source : ℕ) : Type 0 where
  pub steps : ℕ
  pub way : CarriedIn g c steps pin source

-- for each pin its last one
pub record AreLastPins (g : Graph) (c : Choices) (last : List PinIx) : Type 0 where
  pub all : length last ≡ length g.pins
  pub each : (n : ℕ) (pin : PinIx) → slice_get last n ≡ Some pin → IsLast (StepsBack g c) n pin.0

-- for each pin the one that is a step back from it
pub record AreSteps (g : Graph) (c : Choices) (steps : List (Option ℕ)) : Type 0 where
  pub all : length steps ≡ length g.pins
  pub there : (pin source : ℕ) → slice_get steps pin ≡ Some (Some source) → StepsBack g c pin source
  pub none : (pin : ℕ) → slice_get steps pin ≡ Some None → (source : ℕ) → StepsBack g c pin source → ⊥
  pub inside : (pin source : ℕ) → slice_get steps pin ≡ Some (Some source) → source < length g.pins

-- the pin is carried from the source, and from there no step leads back
pub record IsSource (g : Graph) (c : Choices) (pin source : ℕ) : Type 0 where
  pub carried : Carried g c pin source
  pub first : (q : ℕ) → StepsBack g c source q → ⊥
