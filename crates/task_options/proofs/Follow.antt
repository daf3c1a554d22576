-- The option of a variable that comes after another.
use Rattle.std.proofs.Common.{◌≡◌, ◌+◌, ◌-◌, inl, inr, ℕ, List, ◌∷◌, ◌++◌, Option, Some, None, map, filter, length, slice_get, refl, sym, ap, ◌∙◌, subst, arith}
use Rattle.std.specs.Option.{option_map}
use Rattle.vtr_base.specs.Lists.{Has, up_from}
use Rattle.list_laws.proofs.Members.{from_map, has_either}
use Rattle.pb_expand.specs.declared.number.PbIx.{PbIx}
use Rattle.pb_expand.specs.declared.number.PinIx.{PinIx}
use Rattle.pb_expand.specs.declared.number.EdgeIx.{EdgeIx}
use Rattle.pb_expand.specs.Graph.{Graph, into_from}
use Rattle.prog_map.specs.Leaves.{kind_at}
use Rattle.prog_map.specs.Order.{count_of}
use Rattle.task_types.specs.declared.task.Task.{Task}
use Rattle.task_types.specs.declared.decision.Decision.{Decision}
use Rattle.task_types.specs.declared.decision.Decision.TheVariants as decision
use Rattle.task_types.specs.declared.decision.Occupant.{Occupant}
use Rattle.task_types.specs.declared.decision.Occupant.TheVariants.{Nobody, Atom, Wire}
use Rattle.task_types.specs.Options.{options, occupants, may_hold, wires_at}
use Rattle.task_options.specs.Choosing.{IsNextIn, or_none, var_of}
use Rattle.task_options.proofs.Nexts.{map_split, append_split, up_split, filter_split, next_mapped, next_first, next_later}

module _ (g : Graph) (t : Task) (made : List Decision) where
  pub mode_next : (last : Decision) (pb : PbIx) (mode : ℕ) (next : Option ℕ) (r : Option Decision) → last ≡ decision.Mode pb mode → IsNextIn (up_from 0 (count_of (kind_at g pb.0))) mode next →
      r ≡ option_map (λ (m : ℕ). decision.Mode pb m) next → IsNextIn (options g t made (var_of last)) last r
  mode_next last pb mode next r is of same =
      subst (λ d. IsNextIn (options g t made (var_of d)) d r) (sym is)
      (subst (λ o. IsNextIn (options g t made (var_of (decision.Mode pb mode))) (decision.Mode pb mode) o) (sym same)
      (next_mapped (λ (m : ℕ). decision.Mode pb m) (up_from 0 (count_of (kind_at g pb.0))) mode next (λ y z e. cc) of))

  pub occupant_next : (last : Decision) (leaf : PbIx) (occupant : Occupant) (next : Option Occupant) (r : Option Decision) → last ≡ decision.Occupant leaf occupant → IsNextIn (occupants g t made leaf.0) occupant next →
      r ≡ option_map (λ (o : Occupant). decision.Occupant leaf o) next → IsNextIn (options g t made (var_of last)) last r
  occupant_next last leaf occupant next r is of same =
      subst (λ d. IsNextIn (options g t made (var_of d)) d r) (sym is)
      (subst (λ o. IsNextIn (options g t made (var_of (decision.Occupant leaf occupant))) (decision.Occupant leaf occupant) o) (sym same)
      (next_mapped (λ (o : Occupant). decision.Occupant leaf o) (occupants g t made leaf.0) occupant next (λ y z e. cc) of))

  pub edge_next : (last : Decision) (pin : PinIx) (mode : ℕ) (edge : Option EdgeIx) (list : List EdgeIx) (next : Option EdgeIx) (r : Option Decision) → last ≡ decision.Edge pin mode edge →
      list ≡ into_from 0 g.edges pin.0 mode → IsNextIn (or_none list) edge (option_map (λ (e : EdgeIx). Some e) next) →
      r ≡ option_map (λ (e : EdgeIx). decision.Edge pin mode (Some e)) next → IsNextIn (options g t made (var_of last)) last r
  edge_next last pin mode edge list next r is listed of same =
      subst (λ d. IsNextIn (options g t made (var_of d)) d r) (sym is)
      (subst (λ o. IsNextIn (options g t made (var_of (decision.Edge pin mode edge))) (decision.Edge pin mode edge) o) (sym (same ∙ twice next))
      (next_mapped (λ (e : Option EdgeIx). decision.Edge pin mode e) (or_none (into_from 0 g.edges pin.0 mode)) edge (option_map (λ (e : EdgeIx). Some e) next) (λ y z e. cc)
      (subst (λ xs. IsNextIn (or_none xs) edge (option_map (λ (e : EdgeIx). Some e) next)) listed of)))
    where
      twice : (o : Option EdgeIx) → option_map (λ (e : EdgeIx). decision.Edge pin mode (Some e)) o ≡ option_map (λ (e : Option EdgeIx). decision.Edge pin mode e) (option_map (λ (e : EdgeIx). Some e) o)
      twice None = refl
      twice (Some e) = refl

  pub entry_next : (last : Decision) (pin : PinIx) (net : Option ℕ) (next : Option ℕ) (r : Option Decision) → last ≡ decision.Entry pin net →
      IsNextIn (or_none (up_from 0 (length t.nets))) net (option_map (λ (n : ℕ). Some n) next) →
      r ≡ option_map (λ (n : ℕ). decision.Entry pin (Some n)) next → IsNextIn (options g t made (var_of last)) last r
  entry_next last pin net next r is of same =
      subst (λ d. IsNextIn (options g t made (var_of d)) d r) (sym is)
      (subst (λ o. IsNextIn (options g t made (var_of (decision.Entry pin net))) (decision.Entry pin net) o) (sym (same ∙ twice next))
      (next_mapped (λ (n : Option ℕ). decision.Entry pin n) (or_none (up_from 0 (length t.nets))) net (option_map (λ (n : ℕ). Some n) next) (λ y z e. cc) of))
    where
      twice : (o : Option ℕ) → option_map (λ (n : ℕ). decision.Entry pin (Some n)) o ≡ option_map (λ (n : Option ℕ). decision.Entry pin n) (option_map (λ (n : ℕ). Some n) o)
      twice None = refl
      twice (Some n) = refl

-- what a leaf may be used for after another use

no_nobody : (atoms : List ℕ) (wires : ℕ) → Has (map (λ place. Atom place) atoms ++ map (λ input. Wire input) (up_from 0 wires)) Nobody → ⊥
no_nobody atoms wires has = elim (has_either (map (λ place. Atom place) atoms) (map (λ input. Wire input) (up_from 0 wires)) Nobody has) [
  | inl atom ↦ (let r = from_map (λ place. Atom place) atoms Nobody atom in let bad : ⊥ = cc r.is in bad)
  | inr wire ↦ (let r = from_map (λ input. Wire input) (up_from 0 wires) Nobody wire in let bad : ⊥ = cc r.is in bad)
]

module _ (g : Graph) (t : Task) (made : List Decision) (leaf : ℕ) where
  pub after_nobody : (last : Occupant) (r : Option Occupant) → last ≡ Nobody →
      r ≡ slice_get (map (λ place. Atom place) (filter (may_hold t made leaf) (up_from 0 (length t.atoms - 0))) ++ map (λ input. Wire input) (up_from 0 (wires_at g leaf))) 0 →
      IsNextIn (occupants g t made leaf) last r
  after_nobody last r is at =
      let all : length t.atoms - 0 ≡ length t.atoms = omega arith in
      subst (λ o. IsNextIn (occupants g t made leaf) o r) (sym is)
      (next_first Nobody (map (λ place. Atom place) (filter (may_hold t made leaf) (up_from 0 (length t.atoms))) ++ map (λ input. Wire input) (up_from 0 (wires_at g leaf))) r
      (no_nobody (filter (may_hold t made leaf) (up_from 0 (length t.atoms))) (wires_at g leaf))
      (at ∙ ap (λ n. slice_get (map (λ place. Atom place) (filter (may_hold t made leaf) (up_from 0 n)) ++ map (λ input. Wire input) (up_from 0 (wires_at g leaf))) 0) all))

  atom_part : (atom : ℕ) (before rest : List Occupant) →
      map (λ place. Atom place) (filter (may_hold t made leaf) (up_from 0 (length t.atoms))) ++ map (λ input. Wire input) (up_from 0 (wires_at g leaf)) ≡ before ++ Atom atom ∷ rest →
      rest ≡ map (λ place. Atom place) (filter (may_hold t made leaf) (up_from (atom + 1) (length t.atoms - (atom + 1)))) ++ map (λ input. Wire input) (up_from 0 (wires_at g leaf))
  atom_part atom before rest e =
      let held = filter (may_hold t made leaf) (up_from 0 (length t.atoms)) in
      let wires = map (λ input. Wire input) (up_from 0 (wires_at g leaf)) in
      elim (append_split (map (λ place. Atom place) held) wires before (Atom atom) rest e) [
        | inl here ↦ (
            let r = map_split (λ place. Atom place) held before (Atom atom) here.0 here.1 in
            let same : atom ≡ r.item = cc (r.same) in
            let more = filter_split (may_hold t made leaf) 0 (length t.atoms) atom r.front r.back (r.is ∙ ap (λ x. r.front ++ x ∷ r.back) (sym same)) in
            let count : (0 + length t.atoms) - (atom + 1) ≡ length t.atoms - (atom + 1) = omega arith in
            here.2 ∙ ap (λ xs. xs ++ wires) (r.tail ∙ ap (λ xs. map (λ place. Atom place) xs) (more ∙ ap (λ n. filter (may_hold t made leaf) (up_from (atom + 1) n)) count)))
        | inr there ↦ (let r = map_split (λ input. Wire input) (up_from 0 (wires_at g leaf)) there.0 (Atom atom) rest there.1 in let bad : ⊥ = cc r.same in absurd bad)
      ]

  pub after_atom : (last : Occupant) (atom : ℕ) (r : Option Occupant) → last ≡ Atom atom →
      r ≡ slice_get (map (λ place. Atom place) (filter (may_hold t made leaf) (up_from (atom + 1) (length t.atoms - (atom + 1)))) ++ map (λ input. Wire input) (up_from 0 (wires_at g leaf))) 0 →
      IsNextIn (occupants g t made leaf) last r
  after_atom last atom r is at =
      subst (λ o. IsNextIn (occupants g t made leaf) o r) (sym is)
      (next_later Nobody (map (λ place. Atom place) (filter (may_hold t made leaf) (up_from 0 (length t.atoms))) ++ map (λ input. Wire input) (up_from 0 (wires_at g leaf))) (Atom atom) r (λ e. let bad : ⊥ = cc e in bad)
      (record { each = λ before rest e. at ∙ ap (λ xs. slice_get xs 0) (sym (atom_part atom before rest e)) }))

  wire_part : (input : ℕ) (before rest : List Occupant) →
      map (λ place. Atom place) (filter (may_hold t made leaf) (up_from 0 (length t.atoms))) ++ map (λ input. Wire input) (up_from 0 (wires_at g leaf)) ≡ before ++ Wire input ∷ rest →
      rest ≡ map (λ input. Wire input) (up_from (input + 1) (wires_at g leaf - (input + 1)))
  wire_part input before rest e =
      let held = filter (may_hold t made leaf) (up_from 0 (length t.atoms)) in
      elim (append_split (map (λ place. Atom place) held) (map (λ input. Wire input) (up_from 0 (wires_at g leaf))) before (Wire input) rest e) [
        | inl here ↦ (let r = map_split (λ place. Atom place) held before (Wire input) here.0 here.1 in let bad : ⊥ = cc r.same in absurd bad)
        | inr there ↦ (
            let r = map_split (λ input. Wire input) (up_from 0 (wires_at g leaf)) there.0 (Wire input) rest there.1 in
            let same : input ≡ r.item = cc (r.same) in
            let more = up_split 0 (wires_at g leaf) input r.front r.back (r.is ∙ ap (λ x. r.front ++ x ∷ r.back) (sym same)) in
            let count : (0 + wires_at g leaf) - (input + 1) ≡ wires_at g leaf - (input + 1) = omega arith in
            r.tail ∙ ap (λ xs. map (λ input. Wire input) xs) (more ∙ ap (λ n. up_from (input + 1) n) count))
      ]

  pub after_wire : (last : Occupant) (input : ℕ) (r : Option Occupant) → last ≡ Wire input →
      r ≡ slice_get (map (λ input. Wire input) (up_from (input + 1) (wires_at g leaf - (input + 1)))) 0 →
      IsNextIn (occupants g t made leaf) last r
  after_wire last input r is at =
      subst (λ o. IsNextIn (occupants g t made leaf) o r) (sym is)
      (next_later Nobody (map (λ place. Atom place) (filter (may_hold t made leaf) (up_from 0 (length t.atoms))) ++ map (λ input. Wire input) (up_from 0 (wires_at g leaf))) (Wire input) r (λ e. let bad : ⊥ = cc e in bad)
      (record { each = λ before rest e. at ∙ ap (λ xs. slice_get xs 0) (sym (wire_part input before rest e)) }))
