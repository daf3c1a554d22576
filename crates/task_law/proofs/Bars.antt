-- What a realisation does is left open by decisions that it agrees with; so homeless atoms and cuts bar it.
use Rattle.std.proofs.Common.{◌≡◌, ◌<◌, ◌⊎◌, inl, inr, ℕ, zero, suc, true, false, List, Option, Some, None, map, length, refl, sym, ap, ◌∙◌, subst, arith}
use Rattle.std.specs.Prelude.{slice_index_or}
use Rattle.std.proofs.lemmas.List.{length-map}
use Rattle.std.proofs.lemmas.Option.{slice_get-get_or}
use Rattle.vtr_base.specs.Lists.{Has}
use Rattle.list_laws.proofs.Members.{from_map}
use Rattle.list_laws.proofs.Onces.{once_of, once_map}
use Rattle.list_laws.proofs.Counting.{no_longer}
use Rattle.pb_expand.specs.declared.number.PinIx.{PinIx}
use Rattle.pb_expand.specs.declared.number.EdgeIx.{EdgeIx}
use Rattle.pb_expand.specs.Graph.{Graph, pin_ix, pb_ix, edge_ix}
use Rattle.prog_map.specs.declared.choice.LutChoice.TheVariants as lut
use Rattle.prog_map.specs.Choices.{mode_of, pick_of, is_used, lut_of}
use Rattle.prog_map.specs.Back.{StepsBack, StepsBackIn}
use Rattle.prog_map.specs.Walk.{CarriedIn}
use Rattle.task_types.specs.declared.task.Task.{Task}
use Rattle.task_types.specs.declared.task.Need.{Need}
use Rattle.task_types.specs.declared.task.Need.TheVariants as need
use Rattle.task_types.specs.declared.task.Entries.{Entries}
use Rattle.task_types.specs.declared.task.Entries.TheVariants.{Free, Fixed}
use Rattle.task_types.specs.declared.real.Real.{Real}
use Rattle.task_types.specs.declared.decision.Decision.{Decision}
use Rattle.task_types.specs.declared.decision.Occupant.{Occupant}
use Rattle.task_types.specs.declared.decision.Occupant.TheVariants.{Nobody, Atom, Wire}
use Rattle.task_types.specs.Nets.{NetSaid}
use Rattle.task_types.specs.Decisions.{occupant_in, edge_in, entry_in, is_placed, mode_in}
use Rattle.task_types.specs.Ends.{IsEnd, IsSource, IsActive, IsRootInput, net_of}
use Rattle.task_types.specs.Realises.{IsAt, Enters, net_at, Realises}
use Rattle.task_types.specs.Open.{IsOpen, IsOpenTo, MayEnterBy, MayEnter, SurelyEntersBy, SurelyEnters, AllowsEdge, AllowsStep, MayEnd, MayStart}
use Rattle.task_types.specs.Nodes.{IsHomeless, IsCut}
use Rattle.task_law.proofs.Base.{some_injective, none_some, false_true, wire_same, edge_known}
use Rattle.task_law.proofs.Agrees.{AgreesAll, mode_agrees, occupant_agrees, edge_agrees, entry_agrees, open_agrees, unplaced}
use Rattle.task_law.proofs.Covers.{found_entry}

home : Real → ℕ → ℕ
home r place = (slice_index_or r.homes place (pb_ix 0)).0

home_at : (r : Real) (place : ℕ) → place < length r.homes → IsAt r place (home r place)
unfolding home
home_at r place inside = slice_get-get_or r.homes place (pb_ix 0) inside

module _ (g : Graph) (n : NetSaid) (t : Task) (r : Real) (real : Realises g n t r) (made : List Decision) (agrees : AgreesAll r made) where
  -- homes are open leaves

  home_free : (place leaf : ℕ) → IsAt r place leaf → (o : Option Occupant) → occupant_in made leaf ≡ o →
      (occupant_in made leaf ≡ Some (Atom place)) ⊎ ((is_placed made place ≡ false) × (occupant_in made leaf ≡ None))
  home_free place leaf at None is = inr (unplaced r made place leaf agrees is at, is)
  home_free place leaf at (Some Nobody) is =
      absurd (false_true (sym (occupant_agrees r made leaf Nobody agrees is) ∙ real.homes.used place leaf at))
  home_free place leaf at (Some (Wire i)) is =
      absurd (none_some (sym (real.homes.open' place leaf at) ∙ occupant_agrees r made leaf (Wire i) agrees is))
  home_free place leaf at (Some (Atom a)) is =
      let same : a ≡ place = real.homes.apart a place leaf (occupant_agrees r made leaf (Atom a) agrees is) at in inl (is ∙ ap (λ x. Some (Atom x)) same)

  home_open : (place leaf : ℕ) → IsAt r place leaf → IsOpenTo g t made place leaf
  home_open place leaf at = record {
    holds = real.homes.holds place leaf at;
    open' = open_agrees g r made leaf agrees (real.homes.live place leaf at);
    free = home_free place leaf at (occupant_in made leaf) refl;
  }

  -- what comes in may, and what surely does comes in

  entry_free : (net pin : ℕ) → Enters r net pin → (e : Entries) → t.entries ≡ e → MayEnterBy e made net pin
  entry_free net pin enters (Fixed es) is = ap (λ x. net_at x pin) (sym (real.entries.fixed es is)) ∙ enters
  entry_free net pin enters Free is = by (entry_in made pin) refl
    where
      by : (o : Option (Option ℕ)) → entry_in made pin ≡ o → (entry_in made pin ≡ None) ⊎ (entry_in made pin ≡ Some (Some net))
      by None e = inl e
      by (Some w) e = inr (e ∙ ap (λ x. Some x) (sym (entry_agrees r made pin w agrees e) ∙ enters))

  pub entry_root : (net pin : ℕ) → Enters r net pin → IsRootInput g pin
  entry_root net pin enters = let e = found_entry r.entries pin net enters in subst (λ x. IsRootInput g x) e.at_pin (real.entries.pins e.place e.entry e.is)

  enters_may : (net pin : ℕ) → Enters r net pin → MayEnter g t made net pin
  enters_may net pin enters = record { root = entry_root net pin enters; free = entry_free net pin enters t.entries refl }

  sure_by : (net pin : ℕ) (e : Entries) → t.entries ≡ e → SurelyEntersBy e made net pin → Enters r net pin
  sure_by net pin Free is sure = entry_agrees r made pin (Some net) agrees sure
  sure_by net pin (Fixed es) is sure = ap (λ x. net_at x pin) (real.entries.fixed es is) ∙ sure

  pub active_real : (need : Need) → IsActive t (SurelyEnters t made) need → IsActive t (Enters r) need
  active_real (need.Input atom conn net) active = tt
  active_real (need.LutNet atom net) active = tt
  active_real (need.LeaveAt net at) active = tt
  active_real (need.Leave net) (inl leaves) = inl leaves
  active_real (need.Leave net) (inr enters) = inr (enters.0, sure_by net enters.0 t.entries refl enters.1)

  -- ends and sources are possible ones

  pub end_possible : (need : Need) (p : ℕ) → IsEnd g n t (IsAt r) need p → MayEnd g n t made need p
  end_possible (need.Input atom conn net) p e = (e.0, home_open atom e.0 e.1, e.2)
  end_possible (need.LutNet atom net) p e = (e.0, home_open atom e.0 e.1, e.2)
  end_possible (need.Leave net) p e = e
  end_possible (need.LeaveAt net at) p e = e

  pub source_possible : (need : Need) (p : ℕ) → IsSource g n t (IsAt r) (Enters r) need p → MayStart g n t made need p
  source_possible need p (inl m) = inl (record { place = m.place; leaf = m.leaf; at = home_open m.place m.leaf m.at; made = m.made })
  source_possible need p (inr enters) = inr (enters.0, enters_may (net_of need) p enters.1)

  -- steps back are allowed

  edge_free : (pin mode number : ℕ) → pick_of r.prog pin mode ≡ Some number → (o : Option (Option EdgeIx)) → edge_in made pin mode ≡ o →
      (edge_in made pin mode ≡ None) ⊎ (edge_in made pin mode ≡ Some (Some (edge_ix number)))
  edge_free pin mode number taken None e = inl e
  edge_free pin mode number taken (Some w) e =
      inr (e ∙ ap (λ x. Some x) (edge_known w number (sym (edge_agrees r made pin mode w agrees e) ∙ taken)))

  pass_free : (leaf input : ℕ) → lut_of r.prog leaf ≡ Some (lut.Wire input) → is_used r.prog leaf ≡ true → (o : Option Occupant) → occupant_in made leaf ≡ o →
      (occupant_in made leaf ≡ None) ⊎ (occupant_in made leaf ≡ Some (Wire input))
  pass_free leaf input holds used None e = inl e
  pass_free leaf input holds used (Some Nobody) e = absurd (false_true (sym (occupant_agrees r made leaf Nobody agrees e) ∙ used))
  pass_free leaf input holds used (Some (Atom a)) e =
      absurd (none_some (sym (real.homes.open' a leaf (occupant_agrees r made leaf (Atom a) agrees e)) ∙ holds))
  pass_free leaf input holds used (Some (Wire j)) e =
      let same : j ≡ input = wire_same j input (sym (occupant_agrees r made leaf (Wire j) agrees e) ∙ holds) in
      inr (e ∙ ap (λ x. Some (Wire x)) same)

  edge_allowed : (p q owner : ℕ) → StepsBackIn g r.prog owner p q → AllowsEdge g made p q
  edge_allowed p q owner e = record {
    number = e.number;
    edge = e.edge;
    is = e.is;
    ends = e.ends;
    starts = e.starts;
    open' = subst (λ x. IsOpen g (mode_in made) x) (sym e.owned) (open_agrees g r made owner agrees e.live);
    mode = λ m is. some_injective (sym (mode_agrees r made e.edge.owner.0 m agrees is) ∙ ap (λ x. mode_of r.prog x) e.owned ∙ e.chosen);
    free = edge_free p e.edge.mode e.number e.taken (edge_in made p e.edge.mode) refl;
  }

  pub step_allowed : (p q : ℕ) → StepsBack g r.prog p q → AllowsStep g made p q
  step_allowed p q (inl w) = inl (edge_allowed p q w.owner w.step)
  step_allowed p q (inr e) = inr (record {
    at = e.at;
    is = e.is;
    output = e.output;
    port = e.port;
    width = e.width;
    inputs = e.inputs;
    input = e.input;
    leads = e.leads;
    open' = open_agrees g r made e.at.pb.0 agrees e.live;
    free = pass_free e.at.pb.0 e.input e.holds e.used (occupant_in made e.at.pb.0) refl;
  })

  -- a cut

  cut_keeps : (number : ℕ) (pins : List PinIx) → IsCut g n t made number pins → (steps p q : ℕ) → CarriedIn g r.prog steps p q → Has pins (pin_ix p) → Has pins (pin_ix q)
  cut_keeps number pins c zero p q way has = subst (λ x. Has pins (pin_ix x)) way has
  cut_keeps number pins c (suc m) p q way has = cut_keeps number pins c m way.0 q way.2 (c.closed p way.0 has (step_allowed p way.0 way.1))

  pub cut_bars : (number : ℕ) (pins : List PinIx) → IsCut g n t made number pins → ⊥
  cut_bars number pins c =
      let m = real.met number c.need c.active.is (active_real c.need c.active.active) in
      c.sourceless m.source (source_possible c.need m.source m.is_source)
      (cut_keeps number pins c m.carried.steps m.last m.source m.carried.way (c.ends m.last (end_possible c.need m.last m.is_end)))

  -- homeless atoms

  pub homeless_bars : (atoms : List ℕ) → IsHomeless g t made atoms → ⊥
  homeless_bars atoms h =
      let placed : (a : ℕ) → Has atoms a → IsAt r a (home r a) = λ a has. home_at r a (omega (arith, h.atoms_of a has, real.homes.each)) in
      let few = no_longer (map (home r) atoms) h.leaves
      (once_map (home r) atoms (once_of atoms h.once)
      (λ a b has_a has_b same. real.homes.apart a b (home r b) (subst (λ l. IsAt r a l) same (placed a has_a)) (placed b has_b)))
      (λ leaf has. let m = from_map (home r) atoms leaf has in
      h.all m.item leaf m.has (subst (λ l. IsOpenTo g t made m.item l) (sym m.is) (home_open m.item (home r m.item) (placed m.item m.has)))) in
      omega (arith, few, length-map atoms (home r), h.fewer)
