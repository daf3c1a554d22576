-- Decisions that settle each need, read as a realisation, realise.
use Rattle.std.proofs.Common.{◌≡◌, ◌⊎◌, inl, inr, ℕ, zero, suc, true, List, Option, Some, None, IsSome, refl, sym, ap, ◌∙◌, subst}
use Rattle.list_laws.proofs.Members.{has_at}
use Rattle.pb_expand.specs.declared.number.PbIx.{PbIx}
use Rattle.pb_expand.specs.Graph.{Graph, edge_ix, pin_ix}
use Rattle.pb_expand.specs.Kept.{IsKept}
use Rattle.pb_expand.specs.OneOwner.{HasOneOwner}
use Rattle.prog_map.specs.declared.choice.LSite.{LSite}
use Rattle.prog_map.specs.declared.choice.LSite.TheVariants as site
use Rattle.prog_map.specs.declared.choice.LutChoice.{LutChoice}
use Rattle.prog_map.specs.declared.choice.LutChoice.TheVariants as lut
use Rattle.prog_map.specs.Back.{StepsBack}
use Rattle.prog_map.specs.Choices.{mode_of, pick_of, is_used, lut_of, IsLutChoice}
use Rattle.prog_map.specs.Live.{IsLiveAt, IsLivePin, IsLiveSite}
use Rattle.prog_map.specs.Sites.{HasChoice}
use Rattle.prog_map.specs.Walk.{CarriedIn}
use Rattle.task_types.specs.declared.task.Task.{Task}
use Rattle.task_types.specs.declared.task.Need.{Need}
use Rattle.task_types.specs.declared.task.Need.TheVariants as need
use Rattle.task_types.specs.declared.real.Real.{Real}
use Rattle.task_types.specs.declared.decision.Decision.{Decision}
use Rattle.task_types.specs.declared.decision.Occupant.{Occupant}
use Rattle.task_types.specs.declared.decision.Occupant.TheVariants.{Nobody, Atom, Wire}
use Rattle.task_types.specs.Nets.{NetSaid}
use Rattle.task_types.specs.Decisions.{mode_in, occupant_in}
use Rattle.task_types.specs.Ends.{IsEnd, IsSource, IsActive, net_of}
use Rattle.task_types.specs.Open.{SurelyEnters}
use Rattle.task_types.specs.Realises.{IsAt, Enters, PassesOn, IsMet, Realises}
use Rattle.search_free.specs.Held.{IsPinHeld, AreHeld}
use Rattle.search_rules.specs.Reading.{IsRealOf, is_taken, wire_of}
use Rattle.search_rules.specs.Settled.{IsHomeOf, TakesStep, IsRouted, IsSettled, IsReady}
use Rattle.search_law.proofs.Inputs.{wire_fits}
use Rattle.search_law.proofs.Modes.{mode_there}

none_some : {X : Type 0} {x : X} → None ≡ Some x → ⊥
none_some e = cc

some_injective : {X : Type 0} {x y : X} → Some x ≡ Some y → x ≡ y
some_injective e = cc

some_of : {X : Type 0} (o : Option X) → IsSome o → (x : X) × (o ≡ Some x)
some_of None is = absurd (let bad : ⊥ = cc is in bad)
some_of (Some x) is = (x, refl)

-- what stands in a leaf that is in use, and in one that passes an input on

taken_by : (o : Option Occupant) → is_taken o ≡ true → (w : Occupant) × (o ≡ Some w)
taken_by None taken = absurd (let bad : ⊥ = cc taken in bad)
taken_by (Some w) taken = (w, refl)

wired_by : (o : Option Occupant) (choice : LutChoice) → wire_of o ≡ Some choice → (input : ℕ) × (o ≡ Some (Wire input)) × (choice ≡ lut.Wire input)
wired_by None choice wire = absurd (none_some wire)
wired_by (Some Nobody) choice wire = absurd (none_some wire)
wired_by (Some (Atom place)) choice wire = absurd (none_some wire)
wired_by (Some (Wire input)) choice wire = (input, refl, sym (some_injective wire))

module _ (g : Graph) (n : NetSaid) (t : Task) (kept : IsKept g) (one : HasOneOwner g) (made : List Decision) (held : AreHeld g t made) (r : Real) (is : IsRealOf g t made r) where
  live_real : (pb : ℕ) → IsLiveAt g (mode_in made) pb → IsLiveAt g (mode_of r.prog) pb
  live_real pb live = record { inside = live.inside; each = λ above mode st. is.modes above ∙ live.each above mode st }

  pin_real : (pin mode : ℕ) → IsLivePin g (mode_in made) pin mode → IsLivePin g (mode_of r.prog) pin mode
  pin_real pin mode pin_live = record {
    number = pin_live.number;
    into = pin_live.into;
    live = live_real pin_live.into.edge.owner.0 pin_live.live;
    chosen = is.modes pin_live.into.edge.owner.0 ∙ pin_live.chosen;
  }

  pin_at : (pin mode number : ℕ) → pick_of r.prog pin mode ≡ Some number → IsPinHeld g made pin mode (Some (edge_ix number))
  pin_at pin mode number taken = held.pins pin mode (Some (edge_ix number)) ((is.picks pin mode number).0 taken)

  used_by : (leaf : ℕ) → is_used r.prog leaf ≡ true → (w : Occupant) × (occupant_in made leaf ≡ Some w)
  used_by leaf used = taken_by (occupant_in made leaf) (sym (is.used leaf) ∙ used)

  wire_at : (leaf : ℕ) (choice : LutChoice) → lut_of r.prog leaf ≡ Some choice → (input : ℕ) × (occupant_in made leaf ≡ Some (Wire input)) × (choice ≡ lut.Wire input)
  wire_at leaf choice holds = wired_by (occupant_in made leaf) choice (sym (is.luts leaf) ∙ holds)

  lut_fits : (leaf : ℕ) (choice : LutChoice) → lut_of r.prog leaf ≡ Some choice → IsLutChoice g leaf choice
  lut_fits leaf choice holds =
      let w = wire_at leaf choice holds in
      subst (λ x. IsLutChoice g leaf x) (sym w.2) (wire_fits g leaf w.0 kept (held.leaves leaf (Wire w.0) w.1).fits)

  used_kinds : (leaf : ℕ) (w : Occupant) → is_used r.prog leaf ≡ true → occupant_in made leaf ≡ Some w → ((place : ℕ) × IsAt r place leaf) ⊎ PassesOn r.prog leaf
  used_kinds leaf Nobody used at = absurd (let bad : ⊥ = cc (sym (ap is_taken at) ∙ sym (is.used leaf) ∙ used) in bad)
  used_kinds leaf (Atom place) used at = inl (place, (is.at place leaf).1 at)
  used_kinds leaf (Wire input) used at = inr (record { input = input; holds = is.luts leaf ∙ ap wire_of at })

  -- choices stand at live sites
  site_live : (site : LSite) → HasChoice r.prog site → IsLiveSite g (mode_of r.prog) (is_used r.prog) site
  site_live (site.Mode pb) some =
      let m = some_of (mode_of r.prog pb.0) some in
      let on = held.modes pb.0 m.0 (sym (is.modes pb.0) ∙ m.1) in
      (on.modes, live_real pb.0 on.live)
  site_live (site.Pin pin mode) some =
      let p = some_of (pick_of r.prog pin.0 mode) some in pin_real pin.0 mode (pin_at pin.0 mode p.0 p.1).live
  site_live (site.Used pb) used =
      let w = used_by pb.0 used in let on = held.leaves pb.0 w.0 w.1 in (on.is_leaf, live_real pb.0 on.live)
  site_live (site.Lut pb) some =
      let c = some_of (lut_of r.prog pb.0) some in
      let w = wire_at pb.0 c.0 c.1 in
      ((lut_fits pb.0 c.0 c.1).inputs.lut, live_real pb.0 (held.leaves pb.0 (Wire w.0) w.1).live, is.used pb.0 ∙ ap is_taken w.1)

  -- decided steps are taken
  step_real : (p q : ℕ) → TakesStep g made p q → StepsBack g r.prog p q
  step_real p q (inl e) =
      let live = (held.pins p e.edge.mode (Some (edge_ix e.number)) e.taken).live in
      let owner : live.into.edge.owner ≡ e.edge.owner =
      one.one live.into.edge e.edge (has_at g.edges live.number live.into.edge live.into.there) (has_at g.edges e.number e.edge e.is) (ap pin_ix (live.into.ends ∙ sym e.ends)) in
      let chosen : mode_in made e.edge.owner.0 ≡ Some e.edge.mode = subst (λ (x : PbIx). mode_in made x.0 ≡ Some e.edge.mode) owner live.chosen in
      let holds : IsLiveAt g (mode_in made) e.edge.owner.0 = subst (λ (x : PbIx). IsLiveAt g (mode_in made) x.0) owner live.live in
      inl (record {
        owner = e.edge.owner.0;
        step = record {
          number = e.number;
          edge = e.edge;
          is = e.is;
          owned = refl;
          ends = e.ends;
          starts = e.starts;
          taken = (is.picks p e.edge.mode e.number).1 e.taken;
          chosen = is.modes e.edge.owner.0 ∙ chosen;
          live = live_real e.edge.owner.0 holds;
        };
      })
  step_real p q (inr e) = inr (record {
    at = e.at;
    is = e.is;
    output = e.output;
    port = e.port;
    width = e.width;
    inputs = e.inputs;
    input = e.input;
    holds = is.luts e.at.pb.0 ∙ ap wire_of e.passes;
    used = is.used e.at.pb.0 ∙ ap is_taken e.passes;
    live = live_real e.at.pb.0 (held.leaves e.at.pb.0 (Wire e.input) e.passes).live;
    leads = e.leads;
  })

  routed_real : (k p q : ℕ) → IsRouted g made k p q → CarriedIn g r.prog k p q
  routed_real zero p q way = way
  routed_real (suc k) p q way = (way.0, step_real p way.0 way.1, routed_real k way.0 q way.2)

  end_real : (need : Need) (p : ℕ) → IsEnd g n t (IsHomeOf made) need p → IsEnd g n t (IsAt r) need p
  end_real (need.Input atom conn net) p e = (e.0, (is.at atom e.0).1 e.1, e.2)
  end_real (need.LutNet atom net) p e = (e.0, (is.at atom e.0).1 e.1, e.2)
  end_real (need.Leave net) p e = e
  end_real (need.LeaveAt net at) p e = e

  source_real : (need : Need) (p : ℕ) → IsSource g n t (IsHomeOf made) (SurelyEnters t made) need p → IsSource g n t (IsAt r) (Enters r) need p
  source_real need p (inl first) = inl (record { place = first.place; leaf = first.leaf; at = (is.at first.place first.leaf).1 first.at; made = first.made })
  source_real need p (inr enters) = inr (enters.0, (is.enters (net_of need) p).1 enters.1)

  active_made : (need : Need) → IsActive t (Enters r) need → IsActive t (SurelyEnters t made) need
  active_made (need.Input atom conn net) active = tt
  active_made (need.LutNet atom net) active = tt
  active_made (need.LeaveAt net at) active = tt
  active_made (need.Leave net) (inl leaves) = inl leaves
  active_made (need.Leave net) (inr enters) = inr (enters.0, (is.enters net enters.0).0 enters.1)

  met_real : (need : Need) → IsSettled g n t made need → IsMet g n t r need
  met_real need m = record {
    last = m.last;
    is_end = end_real need m.last m.is_end;
    source = m.source;
    is_source = source_real need m.source m.is_source;
    carried = record { steps = m.steps; way = routed_real m.steps m.last m.source m.routed };
  }

  pub realises : IsReady g n t made → Realises g n t r
  realises ready = record {
    of = record {
      modes = λ pb mode chosen. mode_there g pb mode (held.modes pb mode (sym (is.modes pb) ∙ chosen)).counted;
      picks = λ pin mode number taken. (pin_at pin mode number taken).fits;
      leaves = λ leaf used. (let w = used_by leaf used in (held.leaves leaf w.0 w.1).is_leaf);
      luts = lut_fits;
    };
    homes = record {
      each = is.each;
      holds = λ place leaf at. (held.leaves leaf (Atom place) ((is.at place leaf).0 at)).fits.1;
      live = λ place leaf at. live_real leaf (held.leaves leaf (Atom place) ((is.at place leaf).0 at)).live;
      used = λ place leaf at. is.used leaf ∙ ap is_taken ((is.at place leaf).0 at);
      open' = λ place leaf at. is.luts leaf ∙ ap wire_of ((is.at place leaf).0 at);
      apart = λ i j leaf at_i at_j. (let two : Some (Atom i) ≡ Some (Atom j) = sym ((is.at i leaf).0 at_i) ∙ (is.at j leaf).0 at_j in cc two);
    };
    leaves = λ leaf used. (let w = used_by leaf used in used_kinds leaf w.0 used w.1);
    entries = is.entries;
    live = site_live;
    met = λ k need there active. met_real need (ready.needs k need (record { is = there; active = active_made need active }));
  }
