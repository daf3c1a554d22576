-- Which nodes of a tree are right, where so much was decided above them.
use Rattle.std.specs.Prelude.{◌≡◌, ◌≢◌, ◌<◌, ℕ, zero, suc, List, length, slice_get, Some}
use Rattle.vtr_base.specs.Lists.{Has}
use Rattle.list_laws.specs.Orders.{StandOnce}
use Rattle.pb_expand.specs.declared.number.PinIx.{PinIx}
use Rattle.pb_expand.specs.Graph.{Graph, pin_ix}
use Rattle.task_types.specs.declared.task.Task.{Task}
use Rattle.task_types.specs.declared.task.Need.{Need}
use Rattle.task_types.specs.declared.tree.Var.{Var}
use Rattle.task_types.specs.declared.tree.TreeNode.{TreeNode}
use Rattle.task_types.specs.declared.tree.TreeNode.TheVariants.{Branch, Homeless, Cut, Crowd, Loose}
use Rattle.task_types.specs.declared.decision.Decision.{Decision}
use Rattle.task_types.specs.Nets.{NetSaid}
use Rattle.task_types.specs.Ends.{net_of}
use Rattle.task_types.specs.Open.{IsOpenTo, AllowsStep, MayEnd, MayStart, IsActiveNeed}
use Rattle.task_types.specs.Options.{options, IsLiveVar, IsUndecided}

-- a branch: on a variable that is live and undecided, with a child for each option left
pub record IsBranch (g : Graph) (t : Task) (made : List Decision) (v : Var) (kids : ℕ) : Type 0 where
  pub live : IsLiveVar g t made v
  pub undecided : IsUndecided made v
  pub each : kids ≡ length (options g t made v)

-- different atoms, more than the leaves that are open to any of them
pub record IsHomeless (g : Graph) (t : Task) (made : List Decision) (atoms : List ℕ) : Type 0 where
  pub atoms_of : (atom : ℕ) → Has atoms atom → atom < length t.atoms
  pub once : StandOnce atoms
  pub leaves : List ℕ
  pub all : (atom leaf : ℕ) → Has atoms atom → IsOpenTo g t made atom leaf → Has leaves leaf
  pub fewer : length leaves < length atoms

-- pins that hold each pin at which an active need may be met, are closed under steps back that may be
-- taken, and hold none from which its net may come
pub record IsCut (g : Graph) (n : NetSaid) (t : Task) (made : List Decision) (number : ℕ) (pins : List PinIx) : Type 0 where
  pub need : Need
  pub active : IsActiveNeed t made number need
  pub ends : (p : ℕ) → MayEnd g n t made need p → Has pins (pin_ix p)
  pub closed : (p q : ℕ) → Has pins (pin_ix p) → AllowsStep g made p q → Has pins (pin_ix q)
  pub sourceless : (p : ℕ) → MayStart g n t made need p → Has pins (pin_ix p) → ⊥

-- so many steps back that may be taken lead from p to q past no listed pin, p and q included
abbrev pub IsFreeWay : Graph → List Decision → List PinIx → ℕ → ℕ → ℕ → Type 0
IsFreeWay g made pins zero p q = (Has pins (pin_ix p) → ⊥) × (p ≡ q)
IsFreeWay g made pins (suc steps) p q = (Has pins (pin_ix p) → ⊥) × ((x : ℕ) × AllowsStep g made p x × IsFreeWay g made pins steps x q)

-- active needs of different nets, more than the listed pins, each of which has to pass a listed pin
pub record IsCrowd (g : Graph) (n : NetSaid) (t : Task) (made : List Decision) (needs : List ℕ) (pins : List PinIx) : Type 0 where
  pub active : (number : ℕ) → Has needs number → (need : Need) × IsActiveNeed t made number need
  pub apart : (j k x y : ℕ) (a b : Need) → j < k → slice_get needs j ≡ Some x → slice_get needs k ≡ Some y →
      slice_get t.needs x ≡ Some a → slice_get t.needs y ≡ Some b → net_of a ≢ net_of b
  pub fewer : length pins < length needs
  pub blocked : (number steps p q : ℕ) (need : Need) → Has needs number → slice_get t.needs number ≡ Some need →
      MayEnd g n t made need p → MayStart g n t made need q → IsFreeWay g made pins steps p q → ⊥

-- the node is accepted
abbrev pub IsAccepted : Graph → NetSaid → Task → List Decision → TreeNode → Type 0
IsAccepted g n t made (Branch v kids) = IsBranch g t made v kids
IsAccepted g n t made (Homeless atoms) = IsHomeless g t made atoms
IsAccepted g n t made (Cut need pins) = IsCut g n t made need pins
IsAccepted g n t made (Crowd needs pins) = IsCrowd g n t made needs pins
IsAccepted g n t made Loose = Unit {0}
