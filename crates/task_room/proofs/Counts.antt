-- Numbers of options, and products of them.
use Rattle.std.proofs.Common.{◌≡◌, ◌≤◌, ◌+◌, inl, inr, ℕ, zero, suc, Bool, true, false, List, [], ◌∷◌, ◌++◌, Some, None, map, filter, length, refl, ap, ◌∙◌, arith, length-append, if◌then◌else◌}
use Rattle.std.proofs.lemmas.List.{length-map}
use Rattle.std.proofs.lemmas.Bool.{cases_Bool}
use Rattle.vtr_base.specs.Lists.{up_from}
use Rattle.pb_expand.specs.declared.number.PbIx.{PbIx}
use Rattle.pb_expand.specs.declared.number.PinIx.{PinIx}
use Rattle.pb_expand.specs.declared.number.EdgeIx.{EdgeIx}
use Rattle.pb_expand.specs.Graph.{Graph, into_from}
use Rattle.prog_map.specs.Leaves.{kind_at}
use Rattle.prog_map.specs.Order.{count_of}
use Rattle.task_types.specs.declared.task.Task.{Task}
use Rattle.task_types.specs.declared.tree.Var.TheVariants as var
use Rattle.task_types.specs.declared.decision.Decision.TheVariants as decision
use Rattle.task_types.specs.declared.decision.Occupant.TheVariants.{Atom, Wire}
use Rattle.task_types.specs.Realises.{can_hold}
use Rattle.task_types.specs.Options.{wires_at, may_hold, occupants}
use Rattle.task_room.specs.Room.{choices_of}

pub up_length : (n k : ℕ) → length (up_from n k) ≡ k
up_length n zero = refl
up_length n (suc k) = ap suc (up_length (n + 1) k)

pub mode_choices : (g : Graph) (t : Task) (pb : PbIx) → choices_of g t (var.Mode pb) ≡ count_of (kind_at g pb.0)
mode_choices g t pb = length-map (up_from 0 (count_of (kind_at g pb.0))) (λ mode. decision.Mode pb mode) ∙ up_length 0 (count_of (kind_at g pb.0))

pub leaf_choices : (g : Graph) (t : Task) (pb : PbIx) → choices_of g t (var.Occupant pb) ≡ 1 + length (filter (may_hold t [] pb.0) (up_from 0 (length t.atoms))) + wires_at g pb.0
leaf_choices g t pb =
    let held = filter (may_hold t [] pb.0) (up_from 0 (length t.atoms)) in
    let wires = up_from 0 (wires_at g pb.0) in
    let all = length-map (occupants g t [] pb.0) (λ occupant. decision.Occupant pb occupant) in
    let both = length-append (map (λ place. Atom place) held) (map (λ input. Wire input) wires) in
    omega (arith, all, both, length-map held (λ place. Atom place), length-map wires (λ input. Wire input), up_length 0 (wires_at g pb.0))

pub leaf_some : (g : Graph) (t : Task) (pb : PbIx) → 1 ≤ choices_of g t (var.Occupant pb)
leaf_some g t pb = omega (arith, leaf_choices g t pb)

pub edge_choices : (g : Graph) (t : Task) (pin : PinIx) (mode : ℕ) → choices_of g t (var.Edge pin mode) ≡ 1 + length (into_from 0 g.edges pin.0 mode)
edge_choices g t pin mode =
    let into = into_from 0 g.edges pin.0 mode in
    let all = length-map (None ∷ map (λ (edge : EdgeIx). Some edge) into) (λ edge. decision.Edge pin mode edge) in
    omega (arith, all, length-map into (λ (edge : EdgeIx). Some edge))

pub entry_choices : (g : Graph) (t : Task) (pin : PinIx) → choices_of g t (var.Entry pin) ≡ 1 + length t.nets
entry_choices g t pin =
    let nets = up_from 0 (length t.nets) in
    let all = length-map (None ∷ map (λ (net : ℕ). Some net) nets) (λ net. decision.Entry pin net) in
    omega (arith, all, length-map nets (λ (net : ℕ). Some net), up_length 0 (length t.nets))

-- one number more that is tried

up_more : (n k : ℕ) → up_from n (suc k) ≡ up_from n k ++ (n + k) ∷ []
up_more n zero = let same : n ≡ n + 0 = omega arith in ap (λ x. x ∷ []) same
up_more n (suc k) = let same : (n + 1) + k ≡ n + suc k = omega arith in ap (λ xs. n ∷ xs) (up_more (n + 1) k) ∙ ap (λ x. n ∷ (up_from (n + 1) k ++ x ∷ [])) same

filter_more : (p : ℕ → Bool) (xs : List ℕ) (x : ℕ) → length (filter p (xs ++ x ∷ [])) ≡ length (filter p xs) + (if p x then 1 else 0)
filter_more p [] x = elim (cases_Bool (p x)) [ inl t ↦ rw t refl | inr f ↦ rw f refl ]
filter_more p (y ∷ xs) x = elim (cases_Bool (p y)) [
  | inl t ↦ rw t (let rest = filter_more p xs x in omega (arith, rest))
  | inr f ↦ rw f (filter_more p xs x)
]

holds_free : (t : Task) (leaf atom : ℕ) → may_hold t [] leaf atom ≡ can_hold t atom leaf
holds_free t leaf atom = elim (cases_Bool (can_hold t atom leaf)) [ inl t' ↦ rw t' refl | inr f ↦ rw f refl ]

pub held_more : (t : Task) (leaf n : ℕ) → can_hold t n leaf ≡ true →
    length (filter (may_hold t [] leaf) (up_from 0 (n + 1))) ≡ length (filter (may_hold t [] leaf) (up_from 0 n)) + 1
held_more t leaf n holds =
    let next : n + 1 ≡ suc n = omega arith in
    let same : 0 + n ≡ n = omega arith in
    ap (λ k. length (filter (may_hold t [] leaf) (up_from 0 k))) next ∙ ap (λ xs. length (filter (may_hold t [] leaf) xs)) (up_more 0 n)
    ∙ filter_more (may_hold t [] leaf) (up_from 0 n) (0 + n)
    ∙ ap (λ b. length (filter (may_hold t [] leaf) (up_from 0 n)) + (if b then 1 else 0)) (ap (λ k. may_hold t [] leaf k) same ∙ holds_free t leaf n ∙ holds)

pub held_same : (t : Task) (leaf n : ℕ) → can_hold t n leaf ≡ false →
    length (filter (may_hold t [] leaf) (up_from 0 (n + 1))) ≡ length (filter (may_hold t [] leaf) (up_from 0 n))
held_same t leaf n fails =
    let next : n + 1 ≡ suc n = omega arith in
    let same : 0 + n ≡ n = omega arith in
    let step = ap (λ k. length (filter (may_hold t [] leaf) (up_from 0 k))) next ∙ ap (λ xs. length (filter (may_hold t [] leaf) xs)) (up_more 0 n)
    ∙ filter_more (may_hold t [] leaf) (up_from 0 n) (0 + n)
    ∙ ap (λ b. length (filter (may_hold t [] leaf) (up_from 0 n)) + (if b then 1 else 0)) (ap (λ k. may_hold t [] leaf k) same ∙ holds_free t leaf n ∙ fails) in
    omega (arith, step)
