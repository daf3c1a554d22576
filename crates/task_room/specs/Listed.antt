-- The variables in a list: of instances, of edges into pins, and of pins of the block.
use Rattle.std.specs.Prelude.{◌≡◌, ◌==◌, ℕ, zero, suc, Bool, true, false, List, [], ◌∷◌, ◌++◌, Option, Some, None, length, slice_get, if◌then◌else◌}
use Rattle.std.specs.Option.{option_map_or}
use Rattle.arch_types.specs.declared.block.Port.{Port}
use Rattle.arch_types.specs.declared.block.Side.{Side}
use Rattle.arch_types.specs.declared.block.Side.TheVariants.{Input, Output, Clock}
use Rattle.pb_expand.specs.declared.number.Edge.{Edge}
use Rattle.pb_expand.specs.declared.number.PinAt.{PinAt}
use Rattle.pb_expand.specs.declared.number.PbKind.{PbKind}
use Rattle.pb_expand.specs.declared.number.PbKind.TheVariants.{Leaf, Modes}
use Rattle.pb_expand.specs.Graph.{Graph, pb_ix, pin_ix}
use Rattle.prog_map.specs.Leaves.{kind_at, port_at}
use Rattle.prog_map.specs.Order.{is_first}
use Rattle.task_types.specs.declared.task.Task.{Task}
use Rattle.task_types.specs.declared.task.Entries.{Entries}
use Rattle.task_types.specs.declared.task.Entries.TheVariants.{Free, Fixed}
use Rattle.task_types.specs.declared.tree.Var.{Var}
use Rattle.task_types.specs.declared.tree.Var.TheVariants as var
use Rattle.task_room.specs.Room.{product_of, IsCapped}
use Rattle.task_room.specs.declared.tally.Tally.{Tally}

-- the variable of an instance of that kind
abbrev pub var_at : ℕ → Option PbKind → List Var
var_at pb None = []
var_at pb (Some (Leaf atom)) = var.Occupant (pb_ix pb) ∷ []
var_at pb (Some (Modes count)) = var.Mode (pb_ix pb) ∷ []

-- those of the first instances
abbrev pub instance_vars : Graph → ℕ → List Var
instance_vars g zero = []
instance_vars g (suc n) = var_at n (kind_at g n) ++ instance_vars g n

-- the variable of the pin and the mode into which an edge is the first
abbrev pub edge_var : Graph → ℕ → Option Edge → List Var
edge_var g n None = []
edge_var g n (Some e) = if is_first g n e then var.Edge e.dst e.mode ∷ [] else []

-- those of the first edges
abbrev pub edge_vars : Graph → ℕ → List Var
edge_vars g zero = []
edge_vars g (suc n) = edge_var g n (slice_get g.edges n) ++ edge_vars g n

abbrev pub leads_in : Side → Bool
leads_in Input = true
leads_in Output = false
leads_in Clock = true

-- the pin is an input or clock pin of the block
abbrev pub is_entry : Graph → PinAt → Bool
is_entry g at = if at.pb.0 == 0 then option_map_or (λ (port : Port). leads_in port.side) (port_at g at) false else false

abbrev pub entry_var : Graph → ℕ → Option PinAt → List Var
entry_var g n None = []
entry_var g n (Some at) = if is_entry g at then var.Entry (pin_ix n) ∷ [] else []

-- those of the first pins
abbrev pub entry_vars : Graph → ℕ → List Var
entry_vars g zero = []
entry_vars g (suc n) = entry_var g n (slice_get g.pins n) ++ entry_vars g n

abbrev pub entries_of : Graph → Entries → List Var
entries_of g Free = entry_vars g (length g.pins)
entries_of g (Fixed es) = []

-- the variables of a task
abbrev pub vars_of : Graph → Task → List Var
vars_of g t = entries_of g t.entries ++ (edge_vars g (length g.edges) ++ instance_vars g (length g.instances))

-- the tally of these variables
pub record IsTallyOf (g : Graph) (t : Task) (tally : Tally) (vars : List Var) : Type 0 where
  pub count : tally.count ≡ length vars
  pub product : IsCapped tally.product (product_of g t vars)
