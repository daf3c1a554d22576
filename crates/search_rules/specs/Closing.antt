-- Leaves of a tree that show that all is lost at a node, and what there is where none does.
use Rattle.std.specs.Prelude.{◌≡◌, ◌<◌, ◌^◌, ℕ, zero, suc, List, Some, length, slice_get}
use Rattle.std.specs.List.{All}
use Rattle.list_laws.specs.Orders.{StandOnce}
use Rattle.pb_expand.specs.declared.number.PinIx.{PinIx}
use Rattle.pb_expand.specs.Graph.{Graph}
use Rattle.task_types.specs.declared.task.Task.{Task}
use Rattle.task_types.specs.declared.task.Need.{Need}
use Rattle.task_types.specs.declared.tree.TreeNode.{TreeNode}
use Rattle.task_types.specs.declared.tree.TreeNode.TheVariants.{Branch, Homeless, Cut, Crowd, Loose}
use Rattle.task_types.specs.declared.decision.Decision.{Decision}
use Rattle.task_types.specs.Nets.{NetSaid}
use Rattle.task_types.specs.Options.{IsVar}
use Rattle.task_types.specs.Open.{IsOpenTo, AllowsStep, MayEnd, MayStart, IsActiveNeed}
use Rattle.task_types.specs.Nodes.{IsAccepted}
use Rattle.task_types.specs.Tidy.{AreFirsts, HaveWays}

-- the node is a leaf that shows something
abbrev pub IsClosing : TreeNode → Type 0
IsClosing (Branch v kids) = ⊥
IsClosing (Homeless atoms) = Unit {0}
IsClosing (Cut need pins) = Unit {0}
IsClosing (Crowd needs pins) = Unit {0}
IsClosing Loose = ⊥

-- the atoms, needs and pins of a closing leaf are those of the task and the graph
abbrev pub IsInside : Graph → Task → TreeNode → Type 0
IsInside g t (Branch v kids) = ⊥
IsInside g t (Homeless atoms) = All (λ (atom : ℕ). atom < length t.atoms) atoms
IsInside g t (Cut need pins) = (need < length t.needs) × All (λ (pin : PinIx). pin.0 < length g.pins) pins
IsInside g t (Crowd needs pins) = All (λ (need : ℕ). need < length t.needs) needs × All (λ (pin : PinIx). pin.0 < length g.pins) pins
IsInside g t Loose = ⊥

-- a text can tell the node: its variable, atoms, needs and pins are there, and its numbers are of 32
-- bits
abbrev pub IsWritable : Graph → Task → TreeNode → Type 0
IsWritable g t (Branch v kids) = IsVar g t v × (kids < 2 ^ 32)
IsWritable g t (Homeless atoms) = All (λ (atom : ℕ). atom < length t.atoms) atoms
IsWritable g t (Cut need pins) = (need < length t.needs) × (need < 2 ^ 32) × All (λ (pin : PinIx). pin.0 < length g.pins) pins
IsWritable g t (Crowd needs pins) = All (λ (need : ℕ). (need < length t.needs) × (need < 2 ^ 32)) needs × All (λ (pin : PinIx). pin.0 < length g.pins) pins
IsWritable g t Loose = Unit {0}

-- the node closes the tree where so much is decided
pub record Closes (g : Graph) (n : NetSaid) (t : Task) (made : List Decision) (node : TreeNode) : Type 0 where
  pub closing : IsClosing node
  pub accepted : IsAccepted g n t made node
  pub inside : IsInside g t node

-- so many steps back that may be taken lead from the pin to the source
abbrev pub LeadsBack : Graph → List Decision → ℕ → ℕ → ℕ → Type 0
LeadsBack g made zero pin source = pin ≡ source
LeadsBack g made (suc steps) pin source = (q : ℕ) × AllowsStep g made pin q × LeadsBack g made steps q source

-- a pin from which the need's net may come is so many steps back from one at which it may be met
pub record HasWay (g : Graph) (n : NetSaid) (t : Task) (made : List Decision) (need : Need) : Type 0 where
  pub last : ℕ
  pub is_end : MayEnd g n t made need last
  pub source : ℕ
  pub is_source : MayStart g n t made need source
  pub steps : ℕ
  pub way : LeadsBack g made steps last source

-- each active need has a way
pub record HaveAllWays (g : Graph) (n : NetSaid) (t : Task) (made : List Decision) : Type 0 where
  pub each : (number : ℕ) (need : Need) → IsActiveNeed t made number need → HasWay g n t made need

-- each atom has a leaf of its own that is open to it
pub record AreHoused (g : Graph) (t : Task) (made : List Decision) : Type 0 where
  pub leaves : List ℕ
  pub long : length leaves ≡ length t.atoms
  pub open' : (place leaf : ℕ) → slice_get leaves place ≡ Some leaf → IsOpenTo g t made place leaf
  pub once : StandOnce leaves

-- the nets' first needs have ways that share no pin
pub record AreUncrowded (g : Graph) (n : NetSaid) (t : Task) (made : List Decision) : Type 0 where
  pub ways : (needs : List ℕ) → AreFirsts t made needs → HaveWays g n t made needs

-- no leaf of a tree closes the node
pub record IsHopeful (g : Graph) (n : NetSaid) (t : Task) (made : List Decision) : Type 0 where
  pub uncut : HaveAllWays g n t made
  pub housed : AreHoused g t made
  pub uncrowded : AreUncrowded g n t made
