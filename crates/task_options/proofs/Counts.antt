-- How many options there are.
use Rattle.std.proofs.Common.{◌≡◌, ◌+◌, inl, inr, ℕ, zero, suc, Bool, List, [], ◌∷◌, ◌++◌, Some, None, map, filter, length, refl, ap, ◌∙◌, arith, length-append, if◌then◌else◌}
use Rattle.std.proofs.lemmas.List.{length-map}
use Rattle.std.proofs.lemmas.Bool.{cases_Bool}
use Rattle.vtr_base.specs.Lists.{up_from}
use Rattle.pb_expand.specs.declared.number.PbIx.{PbIx}
use Rattle.pb_expand.specs.declared.number.PinIx.{PinIx}
use Rattle.pb_expand.specs.declared.number.EdgeIx.{EdgeIx}
use Rattle.pb_expand.specs.Graph.{Graph, into_from}
use Rattle.prog_map.specs.Leaves.{kind_at}
use Rattle.prog_map.specs.Order.{count_of}
use Rattle.task_types.specs.declared.task.Task.{Task}
use Rattle.task_types.specs.declared.tree.Var.TheVariants as var
use Rattle.task_types.specs.declared.decision.Decision.{Decision}
use Rattle.task_types.specs.declared.decision.Decision.TheVariants as decision
use Rattle.task_types.specs.declared.decision.Occupant.TheVariants.{Atom, Wire}
use Rattle.task_types.specs.Options.{wires_at, may_hold, occupants, options}

up_length : (n k : ℕ) → length (up_from n k) ≡ k
up_length n zero = refl
up_length n (suc k) = ap suc (up_length (n + 1) k)

module _ (g : Graph) (t : Task) (made : List Decision) where
  pub mode_options : (pb : PbIx) → length (options g t made (var.Mode pb)) ≡ count_of (kind_at g pb.0)
  mode_options pb = length-map (up_from 0 (count_of (kind_at g pb.0))) (λ mode. decision.Mode pb mode) ∙ up_length 0 (count_of (kind_at g pb.0))

  pub leaf_options : (pb : PbIx) → length (options g t made (var.Occupant pb)) ≡ 1 + length (filter (may_hold t made pb.0) (up_from 0 (length t.atoms))) + wires_at g pb.0
  leaf_options pb =
      let held = filter (may_hold t made pb.0) (up_from 0 (length t.atoms)) in
      let wires = up_from 0 (wires_at g pb.0) in
      let all = length-map (occupants g t made pb.0) (λ occupant. decision.Occupant pb occupant) in
      let both = length-append (map (λ place. Atom place) held) (map (λ input. Wire input) wires) in
      omega (arith, all, both, length-map held (λ place. Atom place), length-map wires (λ input. Wire input), up_length 0 (wires_at g pb.0))

  pub edge_options : (pin : PinIx) (mode : ℕ) → length (options g t made (var.Edge pin mode)) ≡ 1 + length (into_from 0 g.edges pin.0 mode)
  edge_options pin mode =
      let into = into_from 0 g.edges pin.0 mode in
      let all = length-map (None ∷ map (λ (edge : EdgeIx). Some edge) into) (λ edge. decision.Edge pin mode edge) in
      omega (arith, all, length-map into (λ (edge : EdgeIx). Some edge))

  pub entry_options : (pin : PinIx) → length (options g t made (var.Entry pin)) ≡ 1 + length t.nets
  entry_options pin =
      let nets = up_from 0 (length t.nets) in
      let all = length-map (None ∷ map (λ (net : ℕ). Some net) nets) (λ net. decision.Entry pin net) in
      omega (arith, all, length-map nets (λ (net : ℕ). Some net), up_length 0 (length t.nets))

-- one number more that is tried

up_more : (n k : ℕ) → up_from n (suc k) ≡ up_from n k ++ (n + k) ∷ []
up_more n zero = let same : n ≡ n + 0 = omega arith in ap (λ x. x ∷ []) same
up_more n (suc k) = let same : (n + 1) + k ≡ n + suc k = omega arith in ap (λ xs. n ∷ xs) (up_more (n + 1) k) ∙ ap (λ x. n ∷ (up_from (n + 1) k ++ x ∷ [])) same

filter_more : (p : ℕ → Bool) (xs : List ℕ) (x : ℕ) → length (filter p (xs ++ x ∷ [])) ≡ length (filter p xs) + (if p x then 1 else 0)
filter_more p [] x = elim (cases_Bool (p x)) [ inl t ↦ rw t refl | inr f ↦ rw f refl ]
filter_more p (y ∷ xs) x = elim (cases_Bool (p y)) [
  | inl t ↦ rw t (let rest = filter_more p xs x in omega (arith, rest))
  | inr f ↦ rw f (filter_more p xs x)
]

pub counted_more : (p : ℕ → Bool) (n : ℕ) (b : Bool) → p n ≡ b → length (filter p (up_from 0 (n + 1))) ≡ length (filter p (up_from 0 n)) + (if b then 1 else 0)
counted_more p n b is =
    let next : n + 1 ≡ suc n = omega arith in
    let same : 0 + n ≡ n = omega arith in
    ap (λ k. length (filter p (up_from 0 k))) next ∙ ap (λ xs. length (filter p xs)) (up_more 0 n)
    ∙ filter_more p (up_from 0 n) (0 + n)
    ∙ ap (λ c. length (filter p (up_from 0 n)) + (if c then 1 else 0)) (ap p same ∙ is)
