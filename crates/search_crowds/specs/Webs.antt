-- Steps back that may be taken from the ends of some needs on, as a graph, and ways through it.
use Rattle.std.specs.Prelude.{◌≡◌, ◌<◌, ◌⊎◌, ◌++◌, ℕ, List, Some, length, slice_get}
use Rattle.vtr_base.specs.Lists.{Has}
use Rattle.pb_expand.specs.declared.number.PinAt.{PinAt}
use Rattle.pb_expand.specs.Graph.{Graph}
use Rattle.prog_map.specs.Leaves.{IsOutput}
use Rattle.task_types.specs.declared.task.Task.{Task}
use Rattle.task_types.specs.declared.task.Need.{Need}
use Rattle.task_types.specs.declared.decision.Decision.{Decision}
use Rattle.task_types.specs.Nets.{NetSaid}
use Rattle.task_types.specs.Open.{AllowsStep, MayEnd, MayStart}
use Rattle.crowd_cuts.specs.declared.graph.Flow.{Flow}
use Rattle.crowd_cuts.specs.Answer.{IsFlow}

-- the need of that number may be met at the pin
pub record EndsOne (g : Graph) (n : NetSaid) (t : Task) (made : List Decision) (number pin : ℕ) : Type 0 where
  pub need : Need
  pub is : slice_get t.needs number ≡ Some need
  pub end : MayEnd g n t made need pin

-- one of the needs may be met at the pin
pub record EndsOf (g : Graph) (n : NetSaid) (t : Task) (made : List Decision) (needs : List ℕ) (pin : ℕ) : Type 0 where
  pub number : ℕ
  pub of : Has needs number
  pub one : EndsOne g n t made number pin

-- the net of one of the needs may come from the pin
pub record StartsOne (g : Graph) (n : NetSaid) (t : Task) (made : List Decision) (needs : List ℕ) (pin : ℕ) : Type 0 where
  pub number : ℕ
  pub of : Has needs number
  pub need : Need
  pub is : slice_get t.needs number ≡ Some need
  pub start : MayStart g n t made need pin

-- nets may come from the pin at all: it is one of the block itself, or of an output port
pub record CanStart (g : Graph) (pin : ℕ) : Type 0 where
  pub at : PinAt
  pub is : slice_get g.pins pin ≡ Some at
  pub can : (at.pb.0 ≡ 0) ⊎ IsOutput g at

-- those of the pins from which the net of one of the needs may come
pub record AreSources (g : Graph) (n : NetSaid) (t : Task) (made : List Decision) (needs pins sources : List ℕ) : Type 0 where
  pub each : (pin : ℕ) → Has sources pin → Has pins pin × StartsOne g n t made needs pin
  pub all : (pin : ℕ) → Has pins pin → StartsOne g n t made needs pin → Has sources pin

-- edges from a pin to the first `count` of some sources were added, and these to what is reached
pub record AddsEdges (pin : ℕ) (sources : List ℕ) (count : ℕ) (old new : List ℕ) (before after : List (ℕ × ℕ)) : Type 0 where
  pub more : List ℕ
  pub grown : new ≡ old ++ more
  pub kept : (p q : ℕ) → Has {X = ℕ × ℕ} before (p, q) → Has {X = ℕ × ℕ} after (p, q)
  pub each : (p q : ℕ) → Has {X = ℕ × ℕ} after (p, q) → Has {X = ℕ × ℕ} before (p, q) ⊎ ((p ≡ pin) × Has sources q)
  pub all : (k source : ℕ) → k < count → slice_get sources k ≡ Some source → Has {X = ℕ × ℕ} after (pin, source) × Has new source

-- what was first is reached, edges are steps back between what is reached, and the first pins that are
-- reached have all of theirs
pub record IsSpread (g : Graph) (made : List Decision) (first reached : List ℕ) (at : ℕ) (edges : List (ℕ × ℕ)) : Type 0 where
  pub kept : (p : ℕ) → Has first p → Has reached p
  pub each : (p q : ℕ) → Has {X = ℕ × ℕ} edges (p, q) → Has reached p × Has reached q × AllowsStep g made p q
  pub all : (k p q : ℕ) → k < at → slice_get reached k ≡ Some p → AllowsStep g made p q → Has {X = ℕ × ℕ} edges (p, q) × Has reached q

-- the steps back from all that is reached from the ends of the needs, these ends, and the pins that are
-- reached and from which the net of one of the needs may come
pub record IsWeb (g : Graph) (n : NetSaid) (t : Task) (made : List Decision) (needs : List ℕ) (edges : List (ℕ × ℕ)) (starts ends : List ℕ) : Type 0 where
  pub reached : List ℕ
  pub each : (p q : ℕ) → Has {X = ℕ × ℕ} edges (p, q) → AllowsStep g made p q
  pub all : (p q : ℕ) → Has reached p → AllowsStep g made p q → Has {X = ℕ × ℕ} edges (p, q) × Has reached q
  pub starts_of : (p : ℕ) → Has starts p → Has reached p × EndsOf g n t made needs p
  pub all_starts : (p : ℕ) → EndsOf g n t made needs p → Has starts p
  pub ends_of : (p : ℕ) → Has ends p → StartsOne g n t made needs p
  pub all_ends : (p : ℕ) → Has reached p → StartsOne g n t made needs p → Has ends p

-- as many ways through the web as needs, no two through one pin, or fewer pins that each way passes
pub record IsFlowOf (g : Graph) (n : NetSaid) (t : Task) (made : List Decision) (needs : List ℕ) (flow : Flow) : Type 0 where
  pub edges : List (ℕ × ℕ)
  pub starts : List ℕ
  pub ends : List ℕ
  pub web : IsWeb g n t made needs edges starts ends
  pub is : IsFlow (length g.pins) edges starts ends (length needs) flow
