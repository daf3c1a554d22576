-- Pins by number that bar a need.
use Rattle.std.specs.Prelude.{ℕ, List}
use Rattle.vtr_base.specs.Lists.{Has}
use Rattle.pb_expand.specs.Graph.{Graph}
use Rattle.task_types.specs.declared.task.Task.{Task}
use Rattle.task_types.specs.declared.task.Need.{Need}
use Rattle.task_types.specs.declared.decision.Decision.{Decision}
use Rattle.task_types.specs.Nets.{NetSaid}
use Rattle.task_types.specs.Open.{AllowsStep, MayEnd, MayStart}

-- the pins hold each end of the need, are closed under steps back that may be taken, and hold no pin from
-- which the need's net may come
pub record Bars (g : Graph) (n : NetSaid) (t : Task) (made : List Decision) (need : Need) (pins : List ℕ) : Type 0 where
  pub ends : (p : ℕ) → MayEnd g n t made need p → Has pins p
  pub closed : (p q : ℕ) → Has pins p → AllowsStep g made p q → Has pins q
  pub sourceless : (p : ℕ) → MayStart g n t made need p → Has pins p → ⊥
