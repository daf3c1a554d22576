-- What is among the options of a variable.
use Rattle.std.proofs.Common.{◌≡◌, ◌<◌, inr, ℕ, true, List, ◌∷◌, Option, Some, None, map, length, arith}
use Rattle.std.specs.Prelude.{filter}
use Rattle.vtr_base.specs.Lists.{Has, up_from}
use Rattle.list_laws.proofs.Members.{has_left, has_right, has_map, has_filter, has_up}
use Rattle.pb_expand.specs.declared.number.EdgeIx.{EdgeIx}
use Rattle.pb_expand.specs.declared.number.PbIx.{PbIx}
use Rattle.pb_expand.specs.declared.number.PinIx.{PinIx}
use Rattle.pb_expand.specs.Graph.{Graph, into_from}
use Rattle.prog_map.specs.Leaves.{kind_at}
use Rattle.prog_map.specs.Order.{count_of}
use Rattle.task_types.specs.declared.task.Task.{Task}
use Rattle.task_types.specs.declared.tree.Var.TheVariants as var
use Rattle.task_types.specs.declared.decision.Decision.{Decision}
use Rattle.task_types.specs.declared.decision.Decision.TheVariants as decision
use Rattle.task_types.specs.declared.decision.Occupant.{Occupant}
use Rattle.task_types.specs.declared.decision.Occupant.TheVariants.{Atom, Wire}
use Rattle.task_types.specs.Options.{options, occupants, may_hold, wires_at}
use Rattle.task_options.specs.Choosing.{or_none}

below : (n k : ℕ) → k < n → Has (up_from 0 n) k
below n k less = has_up 0 n k (omega arith) (omega (arith, less))

pub of_mode : (g : Graph) (t : Task) (made : List Decision) (pb : PbIx) (mode : ℕ) → mode < count_of (kind_at g pb.0) → Has (options g t made (var.Mode pb)) (decision.Mode pb mode)
of_mode g t made pb mode less = has_map (λ (m : ℕ). decision.Mode pb m) (up_from 0 (count_of (kind_at g pb.0))) mode (below (count_of (kind_at g pb.0)) mode less)

pub of_occupant : (g : Graph) (t : Task) (made : List Decision) (leaf : PbIx) (occupant : Occupant) → Has (occupants g t made leaf.0) occupant → Has (options g t made (var.Occupant leaf)) (decision.Occupant leaf occupant)
of_occupant g t made leaf occupant has = has_map (λ (o : Occupant). decision.Occupant leaf o) (occupants g t made leaf.0) occupant has

pub of_edge : (g : Graph) (t : Task) (made : List Decision) (pin : PinIx) (mode : ℕ) (edge : Option EdgeIx) → Has (or_none (into_from 0 g.edges pin.0 mode)) edge → Has (options g t made (var.Edge pin mode)) (decision.Edge pin mode edge)
of_edge g t made pin mode edge has = has_map (λ (e : Option EdgeIx). decision.Edge pin mode e) (None ∷ map (λ (e : EdgeIx). Some e) (into_from 0 g.edges pin.0 mode)) edge has

pub of_entry : (g : Graph) (t : Task) (made : List Decision) (pin : PinIx) (net : Option ℕ) → Has (or_none (up_from 0 (length t.nets))) net → Has (options g t made (var.Entry pin)) (decision.Entry pin net)
of_entry g t made pin net has = has_map (λ (n : Option ℕ). decision.Entry pin n) (None ∷ map (λ (n : ℕ). Some n) (up_from 0 (length t.nets))) net has

pub of_atom : (g : Graph) (t : Task) (made : List Decision) (leaf place : ℕ) → place < length t.atoms → may_hold t made leaf place ≡ true → Has (occupants g t made leaf) (Atom place)
of_atom g t made leaf place less may =
    inr (
    has_left (map (λ (p : ℕ). Atom p) (filter (may_hold t made leaf) (up_from 0 (length t.atoms)))) (map (λ (i : ℕ). Wire i) (up_from 0 (wires_at g leaf))) (Atom place)
    (has_map (λ (p : ℕ). Atom p) (filter (may_hold t made leaf) (up_from 0 (length t.atoms))) place
    (has_filter (may_hold t made leaf) (up_from 0 (length t.atoms)) place (below (length t.atoms) place less) may)))

pub of_wire : (g : Graph) (t : Task) (made : List Decision) (leaf input : ℕ) → input < wires_at g leaf → Has (occupants g t made leaf) (Wire input)
of_wire g t made leaf input less =
    inr (
    has_right (map (λ (p : ℕ). Atom p) (filter (may_hold t made leaf) (up_from 0 (length t.atoms)))) (map (λ (i : ℕ). Wire i) (up_from 0 (wires_at g leaf))) (Wire input)
    (has_map (λ (i : ℕ). Wire i) (up_from 0 (wires_at g leaf)) input (below (wires_at g leaf) input less)))

pub of_some : {X : Type 0} (xs : List X) (x : X) → Has xs x → Has (or_none xs) (Some x)
of_some xs x has = inr (has_map (λ y. Some y) xs x has)

pub of_some_below : (n k : ℕ) → k < n → Has (or_none (up_from 0 n)) (Some k)
of_some_below n k less = of_some (up_from 0 n) k (below n k less)
