-- Ways past listed pins, which go by number.
use Rattle.std.specs.Prelude.{◌≡◌, ◌≢◌, ◌<◌, ◌⊎◌, ℕ, zero, suc, List, Some, slice_get}
use Rattle.vtr_base.specs.Lists.{Has}
use Rattle.pb_expand.specs.Graph.{Graph}
use Rattle.task_types.specs.declared.task.Task.{Task}
use Rattle.task_types.specs.declared.task.Need.{Need}
use Rattle.task_types.specs.declared.decision.Decision.{Decision}
use Rattle.task_types.specs.Nets.{NetSaid}
use Rattle.task_types.specs.Ends.{net_of}
use Rattle.task_types.specs.Open.{AllowsStep, MayEnd, MayStart, IsActiveNeed}

-- so many steps back that may be taken lead from p to q past no listed pin, p and q included
abbrev pub IsWayPast : Graph → List Decision → List ℕ → ℕ → ℕ → ℕ → Type 0
IsWayPast g made listed zero p q = (Has listed p → ⊥) × (p ≡ q)
IsWayPast g made listed (suc steps) p q = (Has listed p → ⊥) × ((x : ℕ) × AllowsStep g made p x × IsWayPast g made listed steps x q)

-- no way from an end of the need to a source of its net leads past all listed pins
pub record IsBlocked (g : Graph) (n : NetSaid) (t : Task) (made : List Decision) (need : Need) (listed : List ℕ) : Type 0 where
  pub each : (steps p q : ℕ) → MayEnd g n t made need p → MayStart g n t made need q → IsWayPast g made listed steps p q → ⊥

-- active needs of different nets
pub record AreApart (t : Task) (made : List Decision) (needs : List ℕ) : Type 0 where
  pub active : (number : ℕ) → Has needs number → (need : Need) × IsActiveNeed t made number need
  pub apart : (j k x y : ℕ) (a b : Need) → j < k → slice_get needs j ≡ Some x → slice_get needs k ≡ Some y →
      slice_get t.needs x ≡ Some a → slice_get t.needs y ≡ Some b → net_of a ≢ net_of b

-- each of the needs is blocked
pub record AreBlocked (g : Graph) (n : NetSaid) (t : Task) (made : List Decision) (needs listed : List ℕ) : Type 0 where
  pub each : (number : ℕ) (need : Need) → Has needs number → slice_get t.needs number ≡ Some need → IsBlocked g n t made need listed

-- the pin is an end of the need, or one step back from the last pin of a way from an end past all listed
-- pins
abbrev pub IsReached : Graph → NetSaid → Task → List Decision → Need → List ℕ → ℕ → Type 0
IsReached g n t made need listed x =
    MayEnd g n t made need x ⊎ ((steps : ℕ) × (p : ℕ) × (y : ℕ) × MayEnd g n t made need p × IsWayPast g made listed steps p y × AllowsStep g made y x)

-- the pin is done with: it is listed, or it is no source, and what is one step back from it is reached
abbrev pub IsDone : Graph → NetSaid → Task → List Decision → Need → List ℕ → List ℕ → ℕ → Type 0
IsDone g n t made need listed reached x =
    Has listed x ⊎ ((MayStart g n t made need x → ⊥) × ((y : ℕ) → AllowsStep g made x y → Has reached y))

-- a walk over the pins that are reached: each is, all ends are among them, and the first are done with
pub record IsWalk (g : Graph) (n : NetSaid) (t : Task) (made : List Decision) (need : Need) (listed reached : List ℕ) (at : ℕ) : Type 0 where
  pub from : (x : ℕ) → Has reached x → IsReached g n t made need listed x
  pub ends : (x : ℕ) → MayEnd g n t made need x → Has reached x
  pub done : (k x : ℕ) → k < at → slice_get reached k ≡ Some x → IsDone g n t made need listed reached x
