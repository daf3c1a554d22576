-- Which option of a variable comes after another.
use Rattle.std.specs.Prelude.{◌≡◌, ◌<◌, ◌≤◌, ℕ, List, ◌∷◌, ◌++◌, map, Option, Some, None, length, slice_get}
use Rattle.pb_expand.specs.declared.number.EdgeIx.{EdgeIx}
use Rattle.pb_expand.specs.Graph.{Graph}
use Rattle.task_types.specs.declared.tree.Var.{Var}
use Rattle.task_types.specs.declared.tree.Var.TheVariants as var
use Rattle.task_types.specs.declared.decision.Decision.{Decision}
use Rattle.task_types.specs.declared.decision.Decision.TheVariants as decision

-- the variable that a decision decides
abbrev pub var_of : Decision → Var
var_of (decision.Mode pb mode) = var.Mode pb
var_of (decision.Occupant pb occupant) = var.Occupant pb
var_of (decision.Edge pin mode edge) = var.Edge pin mode
var_of (decision.Entry pin net) = var.Entry pin

-- the instance or the pin of the variable is there
abbrev pub IsVarInside : Graph → Var → Type 0
IsVarInside g (var.Mode pb) = pb.0 < length g.instances
IsVarInside g (var.Occupant pb) = pb.0 < length g.instances
IsVarInside g (var.Edge pin mode) = pin.0 < length g.pins
IsVarInside g (var.Entry pin) = pin.0 < length g.pins

-- what stands next behind `last` in the list, if anything does
pub record IsNextIn {X : Type 0} (xs : List X) (last : X) (next : Option X) : Type 0 where
  pub each : (before rest : List X) → xs ≡ before ++ last ∷ rest → next ≡ slice_get rest 0

-- none, or one of these
abbrev pub or_none : {X : Type 0} → List X → List (Option X)
or_none xs = None ∷ map (λ x. Some x) xs

-- edges by ascending numbers
pub record Ascend (edges : List EdgeIx) : Type 0 where
  pub each : (i j : ℕ) (a b : EdgeIx) → i < j → slice_get edges i ≡ Some a → slice_get edges j ≡ Some b → a.0 < b.0

-- before `low` stand edges up to that number, and from `high` on edges above it
pub record AreHalves (edges : List EdgeIx) (number low high : ℕ) : Type 0 where
  pub met : low ≤ high
  pub within : high ≤ length edges
  pub before : (k : ℕ) (a : EdgeIx) → k < low → slice_get edges k ≡ Some a → a.0 ≤ number
  pub behind : (k : ℕ) (a : EdgeIx) → high ≤ k → slice_get edges k ≡ Some a → number < a.0
