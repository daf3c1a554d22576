-- What a decision leaves, and how many options there are.
use Rattle.std.proofs.Common.{◌≡◌, ◌≤◌, ◌<◌, ◌+◌, ◌==◌, ◌&&◌, ◌⊎◌, inl, inr, ℕ, zero, suc, Bool, true, false, not, if◌then◌else◌, List, [], ◌∷◌, ◌++◌, Option, Some, None, map, filter, length, length-append, refl, sym, ap, ◌∙◌, subst, arith}
use Rattle.std.proofs.lemmas.Bool.{cases_Bool}
use Rattle.std.proofs.lemmas.Bool.Decides.{eqb_tells}
use Rattle.std.proofs.lemmas.List.{length-map}
use Rattle.vtr_base.specs.Lists.{Has, up_from}
use Rattle.list_laws.proofs.Members.{from_map}
use Rattle.pb_expand.specs.declared.number.EdgeIx.{EdgeIx}
use Rattle.pb_expand.specs.Graph.{Graph, into_from}
use Rattle.prog_map.specs.Leaves.{kind_at, HasModes}
use Rattle.prog_map.specs.Order.{count_of}
use Rattle.task_types.specs.declared.task.Task.{Task}
use Rattle.task_types.specs.declared.tree.Var.{Var}
use Rattle.task_types.specs.declared.tree.Var.TheVariants as var
use Rattle.task_types.specs.declared.decision.Decision.{Decision}
use Rattle.task_types.specs.declared.decision.Decision.TheVariants as decision
use Rattle.task_types.specs.declared.decision.Occupant.{Occupant}
use Rattle.task_types.specs.declared.decision.Occupant.TheVariants.{Nobody, Atom, Wire}
use Rattle.task_types.specs.Decisions.{mode_in, occupant_in, edge_in, entry_in, is_placed}
use Rattle.task_types.specs.Realises.{can_hold}
use Rattle.task_types.specs.Options.{options, occupants, may_hold, wires_at, IsLiveVar, IsUndecided, IsVar}
use Rattle.task_room.specs.Room.{choices_of}
use Rattle.search_rules.specs.Left.{HasSomeModes}

abbrev is_blank : {X : Type 0} → Option X → Bool
is_blank None = true
is_blank (Some x) = false

-- nothing is decided of the variable
abbrev pub is_left : List Decision → Var → Bool
is_left made (var.Mode pb) = is_blank (mode_in made pb.0)
is_left made (var.Occupant pb) = is_blank (occupant_in made pb.0)
is_left made (var.Edge pin mode) = is_blank (edge_in made pin.0 mode)
is_left made (var.Entry pin) = is_blank (entry_in made pin.0)

pub all_left : (v : Var) → is_left [] v ≡ true
all_left (var.Mode pb) = refl
all_left (var.Occupant pb) = refl
all_left (var.Edge pin mode) = refl
all_left (var.Entry pin) = refl

blank_none : {X : Type 0} (o : Option X) → o ≡ None → is_blank o ≡ true
blank_none None is = refl
blank_none (Some x) is = cc

pub left_undecided : (made : List Decision) (v : Var) → IsUndecided made v → is_left made v ≡ true
left_undecided made (var.Mode pb) is = blank_none (mode_in made pb.0) is
left_undecided made (var.Occupant pb) is = blank_none (occupant_in made pb.0) is
left_undecided made (var.Edge pin mode) is = blank_none (edge_in made pin.0 mode) is
left_undecided made (var.Entry pin) is = blank_none (entry_in made pin.0) is

-- a look-up through one decision more, where that leaves it blank
through : {X : Type 0} (b : Bool) (x : X) (o : Option X) → is_blank (if b then Some x else o) ≡ true → is_blank o ≡ true
through true x o is = cc
through false x o is = is

pub left_before : (o : Decision) (made : List Decision) (v : Var) → is_left (o ∷ made) v ≡ true → is_left made v ≡ true
left_before (decision.Mode at m) made (var.Mode pb) is = through (at.0 == pb.0) m (mode_in made pb.0) is
left_before (decision.Occupant at o) made (var.Mode pb) is = is
left_before (decision.Edge at m e) made (var.Mode pb) is = is
left_before (decision.Entry at n) made (var.Mode pb) is = is
left_before (decision.Mode at m) made (var.Occupant pb) is = is
left_before (decision.Occupant at o) made (var.Occupant pb) is = through (at.0 == pb.0) o (occupant_in made pb.0) is
left_before (decision.Edge at m e) made (var.Occupant pb) is = is
left_before (decision.Entry at n) made (var.Occupant pb) is = is
left_before (decision.Mode at m) made (var.Edge pin mode) is = is
left_before (decision.Occupant at o) made (var.Edge pin mode) is = is
left_before (decision.Edge at m e) made (var.Edge pin mode) is = through ((at.0 == pin.0) && (m == mode)) e (edge_in made pin.0 mode) is
left_before (decision.Entry at n) made (var.Edge pin mode) is = is
left_before (decision.Mode at m) made (var.Entry pin) is = is
left_before (decision.Occupant at o) made (var.Entry pin) is = is
left_before (decision.Edge at m e) made (var.Entry pin) is = is
left_before (decision.Entry at n) made (var.Entry pin) is = through (at.0 == pin.0) n (entry_in made pin.0) is

same_number : (n : ℕ) → (n == n) ≡ true
same_number n = elim (eqb_tells n n) [
  | inl same ↦ same.0
  | inr apart ↦ absurd (apart.1 refl)
]

set : {X : Type 0} (b : Bool) (x : X) (o : Option X) → b ≡ true → is_blank (if b then Some x else o) ≡ false
set true x o is = refl
set false x o is = cc

both : (a b : Bool) → a ≡ true → b ≡ true → (a && b) ≡ true
both true true p q = refl
both true false p q = cc
both false b p q = cc

-- an option of a variable decides it
pub decides : (g : Graph) (t : Task) (made : List Decision) (v : Var) (o : Decision) → Has (options g t made v) o → is_left (o ∷ made) v ≡ false
decides g t made (var.Mode pb) o has =
    let r = from_map (λ mode. decision.Mode pb mode) (up_from 0 (count_of (kind_at g pb.0))) o has in
    subst (λ d. is_left (d ∷ made) (var.Mode pb) ≡ false) (sym r.is) (set (pb.0 == pb.0) r.item (mode_in made pb.0) (same_number pb.0))
decides g t made (var.Occupant pb) o has =
    let r = from_map (λ occupant. decision.Occupant pb occupant) (occupants g t made pb.0) o has in
    subst (λ d. is_left (d ∷ made) (var.Occupant pb) ≡ false) (sym r.is) (set (pb.0 == pb.0) r.item (occupant_in made pb.0) (same_number pb.0))
decides g t made (var.Edge pin mode) o has =
    let r = from_map (λ (edge : Option EdgeIx). decision.Edge pin mode edge) (None ∷ map (λ (edge : EdgeIx). Some edge) (into_from 0 g.edges pin.0 mode)) o has in
    subst (λ d. is_left (d ∷ made) (var.Edge pin mode) ≡ false) (sym r.is)
    (set ((pin.0 == pin.0) && (mode == mode)) r.item (edge_in made pin.0 mode) (both (pin.0 == pin.0) (mode == mode) (same_number pin.0) (same_number mode)))
decides g t made (var.Entry pin) o has =
    let r = from_map (λ (net : Option ℕ). decision.Entry pin net) (None ∷ map (λ (net : ℕ). Some net) (up_from 0 (length t.nets))) o has in
    subst (λ d. is_left (d ∷ made) (var.Entry pin) ≡ false) (sym r.is) (set (pin.0 == pin.0) r.item (entry_in made pin.0) (same_number pin.0))

-- a filter that lets less through is no longer
less_filter : {X : Type 0} (p q : X → Bool) (xs : List X) → ((x : X) → p x ≡ true → q x ≡ true) → length (filter p xs) ≤ length (filter q xs)
less_filter p q [] within = omega arith
less_filter {X} p q (x ∷ xs) within = by (p x) (q x) (within x) (less_filter p q xs within)
  where
    by : (a b : Bool) → (a ≡ true → b ≡ true) → length (filter p xs) ≤ length (filter q xs) → length (if a then x ∷ filter p xs else filter p xs) ≤ length (if b then x ∷ filter q xs else filter q xs)
    by true true is rest = omega (arith, rest)
    by true false is rest = let bad : false ≡ true = is refl in cc
    by false true is rest = omega (arith, rest)
    by false false is rest = rest

may_at_first : (t : Task) (made : List Decision) (leaf place : ℕ) → may_hold t made leaf place ≡ true → may_hold t [] leaf place ≡ true
may_at_first t made leaf place is = by (can_hold t place leaf) (is_placed made place) is
  where
    by : (a b : Bool) → (a && not b) ≡ true → (a && true) ≡ true
    by true b is = refl
    by false b is = cc

-- there are no more options than where nothing is decided
pub fewer_options : (g : Graph) (t : Task) (made : List Decision) (v : Var) → length (options g t made v) ≤ choices_of g t v
fewer_options g t made (var.Mode pb) = omega arith
fewer_options g t made (var.Occupant pb) =
    let wires = map (λ input. Wire input) (up_from 0 (wires_at g pb.0)) in
    let places = up_from 0 (length t.atoms) in
    let now = filter (may_hold t made pb.0) places in
    let first = filter (may_hold t [] pb.0) places in
    let few : length now ≤ length first = less_filter (may_hold t made pb.0) (may_hold t [] pb.0) places (may_at_first t made pb.0) in
    omega (
      arith,
      few,
      length-map (occupants g t made pb.0) (λ occupant. decision.Occupant pb occupant),
      length-map (occupants g t [] pb.0) (λ occupant. decision.Occupant pb occupant),
      length-append (map (λ place. Atom place) now) wires,
      length-append (map (λ place. Atom place) first) wires,
      length-map now (λ place. Atom place),
      length-map first (λ place. Atom place),
    )
fewer_options g t made (var.Edge pin mode) = omega arith
fewer_options g t made (var.Entry pin) = omega arith

length_up : (n k : ℕ) → length (up_from n k) ≡ k
length_up n zero = refl
length_up n (suc k) = ap suc (length_up (n + 1) k)

-- a variable has an option
pub some_options : (g : Graph) (t : Task) (v : Var) → HasSomeModes g → IsVar g t v → 1 ≤ choices_of g t v
some_options g t (var.Mode pb) some is =
    omega (arith, some.each pb.0 is, length-map (up_from 0 (count_of (kind_at g pb.0))) (λ mode. decision.Mode pb mode), length_up 0 (count_of (kind_at g pb.0)))
some_options g t (var.Occupant pb) some is = omega (arith, length-map (occupants g t [] pb.0) (λ occupant. decision.Occupant pb occupant))
some_options g t (var.Edge pin mode) some is = omega arith
some_options g t (var.Entry pin) some is = omega arith

-- a live variable is there
pub live_there : (g : Graph) (t : Task) (made : List Decision) (v : Var) → IsLiveVar g t made v → IsVar g t v
live_there g t made (var.Mode pb) live = live.0
live_there g t made (var.Occupant pb) live = live.0
live_there g t made (var.Edge pin mode) live = (live.number, live.into)
live_there g t made (var.Entry pin) live = live
