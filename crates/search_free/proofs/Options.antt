-- Each option of a live and undecided variable is free.
use Rattle.std.proofs.Common.{◌≡◌, ◌<◌, inl, inr, ℕ, true, false, List, [], ◌∷◌, Option, Some, None, map, filter, length, slice_get, refl, sym, ap, ◌∙◌, subst, arith}
use Rattle.std.specs.Option.{option_map, option_and_then}
use Rattle.std.proofs.lemmas.Option.{slice_get_within}
use Rattle.std.proofs.lemmas.Bool.{cases_Bool}
use Rattle.std.proofs.lemmas.Bool.Decides.{eqb_tells}
use Rattle.vtr_base.specs.Lists.{Has, up_from}
use Rattle.list_laws.proofs.Members.{has_at, from_map, from_filter, has_either, up_has}
use Rattle.pb_expand.specs.declared.number.PbIx.{PbIx}
use Rattle.pb_expand.specs.declared.number.EdgeIx.{EdgeIx}
use Rattle.pb_expand.specs.declared.number.PbKind.{PbKind}
use Rattle.pb_expand.specs.declared.number.PbKind.TheVariants.{Leaf, Modes}
use Rattle.pb_expand.specs.Graph.{Graph, pin_ix, into_from, kind_of}
use Rattle.arch_types.specs.declared.block.PbType.{PbType}
use Rattle.arch_types.specs.Address.{Address, at}
use Rattle.pb_expand.specs.Expansion.{IsExpansion}
use Rattle.pb_expand.specs.OneOwner.{HasOneOwner}
use Rattle.prog_map.specs.Choices.{IsEdgeInto}
use Rattle.prog_map.specs.Leaves.{kind_at}
use Rattle.prog_map.specs.Order.{count_of}
use Rattle.prog_map.specs.Live.{IsLivePin}
use Rattle.task_types.specs.declared.task.Task.{Task}
use Rattle.task_types.specs.declared.tree.Var.{Var}
use Rattle.task_types.specs.declared.tree.Var.TheVariants as var
use Rattle.task_types.specs.declared.decision.Decision.{Decision}
use Rattle.task_types.specs.declared.decision.Decision.TheVariants as decision
use Rattle.task_types.specs.declared.decision.Occupant.{Occupant}
use Rattle.task_types.specs.declared.decision.Occupant.TheVariants.{Nobody, Atom, Wire}
use Rattle.task_types.specs.Decisions.{mode_in, edge_in, is_placed}
use Rattle.task_types.specs.Options.{options, occupants, may_hold, wires_at, IsLiveVar, IsUndecided}
use Rattle.task_types.specs.Realises.{can_hold}
use Rattle.task_trail.specs.Decided.{decided_on, IsFree, IsFreeOccupant}
use Rattle.task_options.specs.Choosing.{var_of, IsVarInside}
use Rattle.tree_steps.specs.Owing.{Owes}

-- an edge that was taken: its owner is still decided to be in its mode
record IsTaken (g : Graph) (made : List Decision) (pin mode : ℕ) : Type 0 where
  pub number : ℕ
  pub into : IsEdgeInto g pin mode number
  pub chosen : mode_in made into.edge.owner.0 ≡ Some mode

module _ (g : Graph) (t : Task) where
  taken : (made : List Decision) (todo : List (List Decision)) (pin mode : ℕ) (edge : Option EdgeIx) → Owes g t made todo → edge_in made pin mode ≡ Some edge → IsTaken g made pin mode
  taken [] todo pin mode edge owes is = absurd (let bad : ⊥ = cc is in bad)
  taken (decision.Mode q k ∷ made) todo pin mode edge owes is =
      let r = taken made owes.0 pin mode edge owes.2 is in
      record {
        number = r.number;
        into = r.into;
        chosen = elim (eqb_tells q.0 r.into.edge.owner.0) [
          | inl same ↦ absurd (let bad : ⊥ = cc (sym owes.1.undecided ∙ ap (λ x. mode_in made x) same.1 ∙ r.chosen) in bad)
          | inr apart ↦ rw apart.0 r.chosen
        ];
      }
  taken (decision.Occupant q o ∷ made) todo pin mode edge owes is =
      let r = taken made owes.0 pin mode edge owes.2 is in record { number = r.number; into = r.into; chosen = r.chosen }
  taken (decision.Entry q o ∷ made) todo pin mode edge owes is =
      let r = taken made owes.0 pin mode edge owes.2 is in record { number = r.number; into = r.into; chosen = r.chosen }
  taken (decision.Edge q k o ∷ made) todo pin mode edge owes is = elim (eqb_tells q.0 pin) [
    | inl pins ↦ elim (eqb_tells k mode) [
      | inl modes ↦ here (owes.1.live) pins.1 modes.1
      | inr apart ↦ later (taken made owes.0 pin mode edge owes.2 (rw (pins.0, apart.0) at is))
    ]
    | inr apart ↦ later (taken made owes.0 pin mode edge owes.2 (rw apart.0 at is))
  ]
    where
      here : IsLivePin g (mode_in made) q.0 k → q.0 ≡ pin → k ≡ mode → IsTaken g (decision.Edge q k o ∷ made) pin mode
      here live pins modes =
          let moved : IsLivePin g (mode_in made) pin mode = subst (λ x. IsLivePin g (mode_in made) x mode) pins (subst (λ m. IsLivePin g (mode_in made) q.0 m) modes live) in
          record { number = moved.number; into = moved.into; chosen = moved.chosen }

      later : IsTaken g made pin mode → IsTaken g (decision.Edge q k o ∷ made) pin mode
      later r = record { number = r.number; into = r.into; chosen = r.chosen }

  -- so nothing is decided of a pin in other modes
  pub edges_free : (made : List Decision) (todo : List (List Decision)) (pin mode : ℕ) → HasOneOwner g → Owes g t made todo → IsLivePin g (mode_in made) pin mode → edge_in made pin mode ≡ None →
      (m : ℕ) → edge_in made pin m ≡ None
  edges_free made todo pin mode owners owes live none m = by (edge_in made pin m) refl
    where
      by : (o : Option (Option EdgeIx)) → edge_in made pin m ≡ o → o ≡ None
      by None is = refl
      by (Some edge) is =
          let r = taken made todo pin m edge owes is in
          let dst : r.into.edge.dst ≡ live.into.edge.dst = ap pin_ix (r.into.ends ∙ sym live.into.ends) in
          let owner = owners.one r.into.edge live.into.edge (has_at g.edges r.number r.into.edge r.into.there) (has_at g.edges live.number live.into.edge live.into.there) dst in
          let both : Some m ≡ Some mode = sym r.chosen ∙ ap (λ (x : PbIx). mode_in made x.0) owner ∙ live.chosen in
          let same : m ≡ mode = cc both in
          let bad : ⊥ = cc (sym is ∙ ap (λ x. edge_in made pin x) same ∙ none) in
          absurd bad

pub pb_inside : (g : Graph) (pb : ℕ) (kind : PbKind) → kind_at g pb ≡ Some kind → pb < length g.instances
pb_inside g pb kind is = by (slice_get g.instances pb) refl
  where
    by : (o : Option Address) → slice_get g.instances pb ≡ o → pb < length g.instances
    by (Some a) found = slice_get_within g.instances pb a found
    by None none =
        let nothing : kind_at g pb ≡ None = ap (λ o. option_map (λ (block : PbType). kind_of block.kind) (option_and_then (λ address. at g.root address) o)) none in
        let bad : ⊥ = cc (sym is ∙ nothing) in absurd bad

pub pin_inside : (g : Graph) (modes : ℕ → Option ℕ) (pin mode : ℕ) → IsExpansion g → IsLivePin g modes pin mode → pin < length g.pins
pin_inside g modes pin mode law live =
    let of = law.has_edges.each live.into.edge (has_at g.edges live.number live.into.edge live.into.there) in
    subst (λ n. n < length g.pins) live.into.ends (slice_get_within g.pins live.into.edge.dst.0 _ of.is_dst.is_pin)

-- what a live variable speaks of is there
pub var_inside : (g : Graph) (t : Task) (made : List Decision) (v : Var) → IsExpansion g → IsLiveVar g t made v → IsVarInside g v
var_inside g t made (var.Mode pb) law live = pb_inside g pb.0 (Modes live.0.count) live.0.is
var_inside g t made (var.Occupant pb) law live = pb_inside g pb.0 (Leaf live.0.atom) live.0.is
var_inside g t made (var.Edge pin mode) law live = pin_inside g (mode_in made) pin.0 mode law live
var_inside g t made (var.Entry pin) law live = slice_get_within g.pins pin.0 live.0.at live.0.is

-- an option is one of its variable
pub var_same : (g : Graph) (t : Task) (made : List Decision) (v : Var) (d : Decision) → Has (options g t made v) d → var_of d ≡ v
var_same g t made (var.Mode pb) d has = let r = from_map (λ mode. decision.Mode pb mode) (up_from 0 (count_of (kind_at g pb.0))) d has in ap var_of r.is
var_same g t made (var.Occupant pb) d has = let r = from_map (λ o. decision.Occupant pb o) (occupants g t made pb.0) d has in ap var_of r.is
var_same g t made (var.Edge pin mode) d has = let r = from_map (λ (e : Option EdgeIx). decision.Edge pin mode e) (None ∷ map (λ (e : EdgeIx). Some e) (into_from 0 g.edges pin.0 mode)) d has in ap var_of r.is
var_same g t made (var.Entry pin) d has = let r = from_map (λ (n : Option ℕ). decision.Entry pin n) (None ∷ map (λ (n : ℕ). Some n) (up_from 0 (length t.nets))) d has in ap var_of r.is

occupant_free : (g : Graph) (t : Task) (made : List Decision) (leaf instances pins : ℕ) (o : Occupant) → Has (occupants g t made leaf) o → IsFreeOccupant (decided_on made instances pins (length t.atoms)) o
occupant_free g t made leaf instances pins Nobody has = tt
occupant_free g t made leaf instances pins (Wire input) has = tt
occupant_free g t made leaf instances pins (Atom atom) (inl is) = let bad : ⊥ = cc is in absurd bad
occupant_free g t made leaf instances pins (Atom atom) (inr has) = elim (has_either (map (λ place. Atom place) (filter (may_hold t made leaf) (up_from 0 (length t.atoms)))) (map (λ input. Wire input) (up_from 0 (wires_at g leaf))) (Atom atom) has) [
  | inl held ↦ (
      let r = from_map (λ place. Atom place) (filter (may_hold t made leaf) (up_from 0 (length t.atoms))) (Atom atom) held in
      let same : r.item ≡ atom = cc r.is in
      let f = from_filter (may_hold t made leaf) (up_from 0 (length t.atoms)) r.item r.has in
      let below = up_has 0 (length t.atoms) r.item f.0 in
      (omega (arith, below.1, same), ap (λ x. is_placed made x) (sym same) ∙ unplaced r.item f.1))
  | inr wire ↦ (let r = from_map (λ input. Wire input) (up_from 0 (wires_at g leaf)) (Atom atom) wire in let bad : ⊥ = cc r.is in absurd bad)
]
  where
    unplaced : (place : ℕ) → may_hold t made leaf place ≡ true → is_placed made place ≡ false
    unplaced place passes = elim (cases_Bool (is_placed made place)) [
      | inl placed ↦ elim (cases_Bool (can_hold t place leaf)) [
        | inl holds ↦ absurd (let bad : ⊥ = cc (rw (holds, placed) at passes) in bad)
        | inr not_held ↦ absurd (let bad : ⊥ = cc (rw not_held at passes) in bad)
      ]
      | inr free ↦ free
    ]

module _ (g : Graph) (t : Task) (law : IsExpansion g) (owners : HasOneOwner g) (made : List Decision) (todo : List (List Decision)) (owes : Owes g t made todo) where
  -- an option of a live and undecided variable can be decided
  pub free_option : (v : Var) (d : Decision) → IsLiveVar g t made v → IsUndecided made v → Has (options g t made v) d → IsFree (decided_on made (length g.instances) (length g.pins) (length t.atoms)) d
  free_option (var.Mode pb) d live none has =
      let r = from_map (λ mode. decision.Mode pb mode) (up_from 0 (count_of (kind_at g pb.0))) d has in
      subst (IsFree (decided_on made (length g.instances) (length g.pins) (length t.atoms))) (sym r.is) (pb_inside g pb.0 (Modes live.0.count) live.0.is, none)
  free_option (var.Occupant pb) d live none has =
      let r = from_map (λ o. decision.Occupant pb o) (occupants g t made pb.0) d has in
      subst (IsFree (decided_on made (length g.instances) (length g.pins) (length t.atoms))) (sym r.is)
      (pb_inside g pb.0 (Leaf live.0.atom) live.0.is, none, occupant_free g t made pb.0 (length g.instances) (length g.pins) r.item r.has)
  free_option (var.Edge pin mode) d live none has =
      let r = from_map (λ (e : Option EdgeIx). decision.Edge pin mode e) (None ∷ map (λ (e : EdgeIx). Some e) (into_from 0 g.edges pin.0 mode)) d has in
      subst (IsFree (decided_on made (length g.instances) (length g.pins) (length t.atoms))) (sym r.is)
      (pin_inside g (mode_in made) pin.0 mode law live, edges_free g t made todo pin.0 mode owners owes live none)
  free_option (var.Entry pin) d live none has =
      let r = from_map (λ (n : Option ℕ). decision.Entry pin n) (None ∷ map (λ (n : ℕ). Some n) (up_from 0 (length t.nets))) d has in
      subst (IsFree (decided_on made (length g.instances) (length g.pins) (length t.atoms))) (sym r.is) (slice_get_within g.pins pin.0 live.0.at live.0.is, none)
