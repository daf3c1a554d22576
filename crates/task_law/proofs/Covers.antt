-- Each realisation that agrees with what is decided above a branch agrees with one of its options.
use Rattle.std.proofs.Common.{◌≡◌, ◌<◌, inl, inr, ℕ, zero, suc, true, false, List, [], ◌∷◌, ◌++◌, Option, Some, None, map, filter, not, length, refl, sym, ap, subst, arith}
use Rattle.std.specs.Prelude.{slice_get}
use Rattle.std.specs.List.{AllByRecursion}
use Rattle.std.proofs.lemmas.Bool.{cases_Bool, and_from}
use Rattle.std.proofs.lemmas.Bool.Decides.{eqb_tells}
use Rattle.std.proofs.lemmas.List.{length-map}
use Rattle.std.proofs.lemmas.Option.{slice_get_within}
use Rattle.vtr_base.specs.Lists.{Has, up_from}
use Rattle.list_laws.proofs.Members.{has_left, has_right, has_map, has_filter, has_up}
use Rattle.pb_expand.specs.declared.number.PbIx.{PbIx}
use Rattle.pb_expand.specs.declared.number.PinIx.{PinIx}
use Rattle.pb_expand.specs.declared.number.EdgeIx.{EdgeIx}
use Rattle.pb_expand.specs.Graph.{Graph, into_from, edge_ix, pb_ix}
use Rattle.pb_expand.specs.Ends.{ListsEnds}
use Rattle.prog_map.specs.declared.choice.LutChoice.TheVariants as lut
use Rattle.prog_map.specs.Choices.{Choices, mode_of, pick_of, is_used, with_mode}
use Rattle.prog_map.specs.Settings.{SetsMode}
use Rattle.prog_map.specs.Leaves.{kind_at}
use Rattle.prog_map.specs.Order.{count_of}
use Rattle.task_types.specs.declared.task.Task.{Task}
use Rattle.task_types.specs.declared.task.Entry.{Entry}
use Rattle.task_types.specs.declared.real.Real.{Real}
use Rattle.task_types.specs.declared.tree.Var.{Var}
use Rattle.task_types.specs.declared.tree.Var.TheVariants as var
use Rattle.task_types.specs.declared.decision.Decision.{Decision}
use Rattle.task_types.specs.declared.decision.Decision.TheVariants as decision
use Rattle.task_types.specs.declared.decision.Occupant.TheVariants.{Nobody, Atom, Wire}
use Rattle.task_types.specs.Nets.{NetSaid}
use Rattle.task_types.specs.Decisions.{is_placed}
use Rattle.task_types.specs.Realises.{net_at, can_hold, Realises}
use Rattle.task_types.specs.Options.{wires_at, may_hold, occupants, options}
use Rattle.task_types.specs.Nodes.{IsBranch}
use Rattle.task_types.specs.Trees.{children}
use Rattle.task_law.proofs.Base.{some_injective, up_length, mode_counted, mode_there, wires_are}
use Rattle.task_law.proofs.Agrees.{AgreesAll, live_agrees, unplaced}
use Rattle.task_law.proofs.Grows.{set_to, kept_realises, kept_agrees}

-- nothing realises the task and agrees
abbrev pub IsHopeless : Graph → NetSaid → Task → List Decision → Type 0
IsHopeless g n t made = (r : Real) → Realises g n t r → AgreesAll r made → ⊥

has_all : {X : Type 0} (P : X → Type 0) (xs : List X) (x : X) → AllByRecursion P xs → Has xs x → P x
has_all P [] x all h = absurd h
has_all P (y ∷ ys) x all (inl e) = subst P (sym e) all.0
has_all P (y ∷ ys) x all (inr rest) = has_all P ys x all.1 rest

has_child : (made os : List Decision) (kids : ℕ) (o : Decision) → Has os o → kids ≡ length os → Has (children made kids os) (o ∷ made)
has_child made [] kids o h e = absurd h
has_child made (x ∷ os) zero o h e = absurd (omega (arith, e))
has_child made (x ∷ os) (suc k) o (inl same) e = inl (ap (λ y. y ∷ made) same)
has_child made (x ∷ os) (suc k) o (inr rest) e = inr (has_child made os k o rest (omega (arith, e)))

-- where a net comes in there is such an entry
pub record FoundEntry (es : List Entry) (pin net : ℕ) : Type 0 where
  pub place : ℕ
  pub entry : Entry
  pub is : slice_get es place ≡ Some entry
  pub of_net : entry.net ≡ net
  pub at_pin : entry.pin.0 ≡ pin

pub found_entry : (es : List Entry) (pin net : ℕ) → net_at es pin ≡ Some net → FoundEntry es pin net
found_entry [] pin net is = cc
found_entry (e ∷ es) pin net is = elim (eqb_tells e.pin.0 pin) [
  | inl same ↦ (let here : Some e.net ≡ Some net = rw same.0 at is in
      record { place = 0; entry = e; is = refl; of_net = some_injective here; at_pin = same.1 })
  | inr apart ↦ (let rest = found_entry es pin net (rw apart.0 at is) in
      record { place = suc rest.place; entry = rest.entry; is = rest.is; of_net = rest.of_net; at_pin = rest.at_pin })
]

module _ (g : Graph) (n : NetSaid) (t : Task) (lists : ListsEnds g) (sets : (c : Choices) (pb mode : ℕ) → SetsMode c (with_mode c pb mode) pb mode) where
  child_hopeless : (made : List Decision) (v : Var) (kids : ℕ) (todo : List (List Decision)) (o : Decision) → IsBranch g t made v kids →
      AllByRecursion (IsHopeless g n t) (children made kids (options g t made v) ++ todo) → Has (options g t made v) o → IsHopeless g n t (o ∷ made)
  child_hopeless made v kids todo o b all h =
      has_all (IsHopeless g n t) (children made kids (options g t made v) ++ todo) (o ∷ made) all
      (has_left (children made kids (options g t made v)) todo (o ∷ made) (has_child made (options g t made v) kids o h b.each))

  mode_covered : (made : List Decision) (pb : PbIx) (kids : ℕ) (todo : List (List Decision)) → 0 < kids → IsBranch g t made (var.Mode pb) kids →
      AllByRecursion (IsHopeless g n t) (children made kids (options g t made (var.Mode pb)) ++ todo) →
      (r : Real) → Realises g n t r → AgreesAll r made → (o : Option ℕ) → mode_of r.prog pb.0 ≡ o → ⊥
  mode_covered made pb kids todo some b all r real agrees (Some k) is =
      let inside : k < count_of (kind_at g pb.0) = mode_counted g pb.0 k (real.of.modes pb.0 k is) in
      child_hopeless made (var.Mode pb) kids todo (decision.Mode pb k) b all (has_map (λ mode. decision.Mode pb mode) (up_from 0 (count_of (kind_at g pb.0))) k (has_up 0 (count_of (kind_at g pb.0)) k (omega arith) (omega (arith, inside)))) r real (is, agrees)
  mode_covered made pb kids todo some b all r real agrees None is =
      let more : 0 < count_of (kind_at g pb.0) = omega (arith, b.each, some, length-map (up_from 0 (count_of (kind_at g pb.0))) (λ mode. decision.Mode pb mode), up_length 0 (count_of (kind_at g pb.0))) in
      let live = live_agrees g r made pb.0 agrees b.live.1 in
      child_hopeless made (var.Mode pb) kids todo (decision.Mode pb 0) b all (has_map (λ mode. decision.Mode pb mode) (up_from 0 (count_of (kind_at g pb.0))) 0 (has_up 0 (count_of (kind_at g pb.0)) 0 (omega arith) (omega (arith, more))))
      (set_to r pb.0 0) (kept_realises sets g n t r pb.0 0 is (mode_there g pb.0 0 more) b.live.0 live real) ((sets r.prog pb.0 0).here, kept_agrees sets r pb.0 0 made is agrees)

  edge_covered : (made : List Decision) (pin : PinIx) (mode kids : ℕ) (todo : List (List Decision)) → IsBranch g t made (var.Edge pin mode) kids →
      AllByRecursion (IsHopeless g n t) (children made kids (options g t made (var.Edge pin mode)) ++ todo) →
      (r : Real) → Realises g n t r → AgreesAll r made → (o : Option ℕ) → pick_of r.prog pin.0 mode ≡ o → ⊥
  edge_covered made pin mode kids todo b all r real agrees None is =
      child_hopeless made (var.Edge pin mode) kids todo (decision.Edge pin mode None) b all (inl refl) r real (is, agrees)
  edge_covered made pin mode kids todo b all r real agrees (Some number) is =
      let into = real.of.picks pin.0 mode number is in
      let has : Has (into_from 0 g.edges pin.0 mode) (edge_ix number) = ((lists pin.0 mode).exact number).1 (into.edge, into.there, (into.ends, into.in_mode)) in
      child_hopeless made (var.Edge pin mode) kids todo (decision.Edge pin mode (Some (edge_ix number))) b all
      (inr (has_map (λ edge. decision.Edge pin mode edge) (map (λ (edge : EdgeIx). Some edge) (into_from 0 g.edges pin.0 mode)) (Some (edge_ix number))
      (has_map (λ (edge : EdgeIx). Some edge) (into_from 0 g.edges pin.0 mode) (edge_ix number) has))) r real (is, agrees)

  entry_covered : (made : List Decision) (pin : PinIx) (kids : ℕ) (todo : List (List Decision)) → IsBranch g t made (var.Entry pin) kids →
      AllByRecursion (IsHopeless g n t) (children made kids (options g t made (var.Entry pin)) ++ todo) →
      (r : Real) → Realises g n t r → AgreesAll r made → (o : Option ℕ) → net_at r.entries pin.0 ≡ o → ⊥
  entry_covered made pin kids todo b all r real agrees None is =
      child_hopeless made (var.Entry pin) kids todo (decision.Entry pin None) b all (inl refl) r real (is, agrees)
  entry_covered made pin kids todo b all r real agrees (Some net) is =
      let e = found_entry r.entries pin.0 net is in
      let inside : net < length t.nets = subst (λ x. x < length t.nets) e.of_net (real.entries.nets e.place e.entry e.is) in
      child_hopeless made (var.Entry pin) kids todo (decision.Entry pin (Some net)) b all
      (inr (has_map (λ net. decision.Entry pin net) (map (λ (net : ℕ). Some net) (up_from 0 (length t.nets))) (Some net)
      (has_map (λ (net : ℕ). Some net) (up_from 0 (length t.nets)) net (has_up 0 (length t.nets) net (omega arith) (omega (arith, inside)))))) r real (is, agrees)

  occupant_covered : (made : List Decision) (pb : PbIx) (kids : ℕ) (todo : List (List Decision)) → IsBranch g t made (var.Occupant pb) kids →
      AllByRecursion (IsHopeless g n t) (children made kids (options g t made (var.Occupant pb)) ++ todo) → IsHopeless g n t made
  occupant_covered made pb kids todo b all r real agrees = elim (cases_Bool (is_used r.prog pb.0)) [
    | inr off ↦ child_hopeless made (var.Occupant pb) kids todo (decision.Occupant pb Nobody) b all (inl refl) r real (off, agrees)
    | inl on ↦ elim (real.leaves pb.0 on) [
      | inl at ↦ (
          let place = at.0 in
          let holds : can_hold t place pb.0 ≡ true = real.homes.holds place pb.0 at.1 in
          let free : is_placed made place ≡ false = unplaced r made place pb.0 agrees b.undecided at.1 in
          let fits : may_hold t made pb.0 place ≡ true = and_from _ _ holds (ap not free) in
          let inside : place < length t.atoms = omega (arith, slice_get_within r.homes place (pb_ix pb.0) at.1, real.homes.each) in
          child_hopeless made (var.Occupant pb) kids todo (decision.Occupant pb (Atom place)) b all
          (has_map (λ occupant. decision.Occupant pb occupant) (occupants g t made pb.0) (Atom place)
          (inr (has_left (map (λ place. Atom place) (filter (may_hold t made pb.0) (up_from 0 (length t.atoms)))) (map (λ input. Wire input) (up_from 0 (wires_at g pb.0))) (Atom place)
          (has_map (λ place. Atom place) (filter (may_hold t made pb.0) (up_from 0 (length t.atoms))) place
          (has_filter (may_hold t made pb.0) (up_from 0 (length t.atoms)) place (has_up 0 (length t.atoms) place (omega arith) (omega (arith, inside))) fits)))))
          r real (at.1, agrees))
      | inr passes ↦ (
          let choice = real.of.luts pb.0 (lut.Wire passes.input) passes.holds in
          let wide : wires_at g pb.0 ≡ choice.width = wires_are g pb.0 choice.port choice.width choice.inputs in
          let inside : passes.input < wires_at g pb.0 = omega (arith, choice.fits, wide) in
          child_hopeless made (var.Occupant pb) kids todo (decision.Occupant pb (Wire passes.input)) b all
          (has_map (λ occupant. decision.Occupant pb occupant) (occupants g t made pb.0) (Wire passes.input)
          (inr (has_right (map (λ place. Atom place) (filter (may_hold t made pb.0) (up_from 0 (length t.atoms)))) (map (λ input. Wire input) (up_from 0 (wires_at g pb.0))) (Wire passes.input)
          (has_map (λ input. Wire input) (up_from 0 (wires_at g pb.0)) passes.input (has_up 0 (wires_at g pb.0) passes.input (omega arith) (omega (arith, inside)))))))
          r real (passes.holds, agrees))
    ]
  ]

  pub branch_covers : (made : List Decision) (v : Var) (kids : ℕ) (todo : List (List Decision)) → 0 < kids → IsBranch g t made v kids →
      AllByRecursion (IsHopeless g n t) (children made kids (options g t made v) ++ todo) → IsHopeless g n t made
  branch_covers made (var.Mode pb) kids todo some b all r real agrees = mode_covered made pb kids todo some b all r real agrees (mode_of r.prog pb.0) refl
  branch_covers made (var.Occupant pb) kids todo some b all r real agrees = occupant_covered made pb kids todo b all r real agrees
  branch_covers made (var.Edge pin mode) kids todo some b all r real agrees = edge_covered made pin mode kids todo b all r real agrees (pick_of r.prog pin.0 mode) refl
  branch_covers made (var.Entry pin) kids todo some b all r real agrees = entry_covered made pin kids todo b all r real agrees (net_at r.entries pin.0) refl
