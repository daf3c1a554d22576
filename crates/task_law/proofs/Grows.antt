-- A live instance whose mode is off may be set to a mode: what was realised still is.
use Rattle.std.proofs.Common.{◌≡◌, ◌⊎◌, inl, inr, ℕ, zero, suc, Bool, List, [], ◌∷◌, Option, Some, None, sym, ap, ◌∙◌, subst}
use Rattle.std.specs.Prelude.{IsSome}
use Rattle.std.proofs.lemmas.Bool.{cases_eq}
use Rattle.pb_expand.specs.Graph.{Graph}
use Rattle.prog_map.specs.declared.choice.LSite.{LSite}
use Rattle.prog_map.specs.declared.choice.LSite.TheVariants as site
use Rattle.prog_map.specs.Leaves.{HasModes}
use Rattle.prog_map.specs.Choices.{Choices, mode_of, with_mode, is_used, IsModeOf}
use Rattle.prog_map.specs.Live.{IsLiveAt, IsLiveSite}
use Rattle.prog_map.specs.Sites.{HasChoice}
use Rattle.prog_map.specs.Settings.{SetsMode}
use Rattle.prog_map.specs.Back.{StepsBack}
use Rattle.prog_map.specs.Walk.{CarriedIn, Carried}
use Rattle.task_types.specs.declared.task.Task.{Task}
use Rattle.task_types.specs.declared.real.Real.{Real}
use Rattle.task_types.specs.declared.decision.Decision.{Decision}
use Rattle.task_types.specs.declared.decision.Decision.TheVariants as decision
use Rattle.task_types.specs.declared.decision.Occupant.{Occupant}
use Rattle.task_types.specs.declared.decision.Occupant.TheVariants.{Nobody, Atom, Wire}
use Rattle.task_types.specs.Nets.{NetSaid}
use Rattle.task_types.specs.Realises.{Realises}
use Rattle.task_law.proofs.Base.{some_injective, none_some}
use Rattle.task_law.proofs.Agrees.{AgreesLeaf, AgreesAll}

-- what is set stays set
abbrev pub Grows : (ℕ → Option ℕ) → (ℕ → Option ℕ) → Type 0
Grows old new = (p m : ℕ) → old p ≡ Some m → new p ≡ Some m

pub grown_live : (g : Graph) (old new : ℕ → Option ℕ) → Grows old new → (pb : ℕ) → IsLiveAt g old pb → IsLiveAt g new pb
grown_live g old new grows pb live =
    record { inside = live.inside; each = λ above mode stands. grows above mode (live.each above mode stands) }

grown_site : (g : Graph) (old new : ℕ → Option ℕ) (used : ℕ → Bool) → Grows old new → (s : LSite) → IsLiveSite g old used s → IsLiveSite g new used s
grown_site g old new used grows (site.Mode pb) live = (live.0, grown_live g old new grows pb.0 live.1)
grown_site g old new used grows (site.Pin pin mode) live = record {
  number = live.number;
  into = live.into;
  live = grown_live g old new grows live.into.edge.owner.0 live.live;
  chosen = grows live.into.edge.owner.0 mode live.chosen;
}
grown_site g old new used grows (site.Used pb) live = (live.0, grown_live g old new grows pb.0 live.1)
grown_site g old new used grows (site.Lut pb) live = (live.0, grown_live g old new grows pb.0 live.1, live.2)

abbrev pub set_to : Real → ℕ → ℕ → Real
set_to r pb k = record { prog = with_mode r.prog pb k; homes = r.homes; entries = r.entries }

module _ (sets : (c : Choices) (pb mode : ℕ) → SetsMode c (with_mode c pb mode) pb mode) where
  pub grows : (c : Choices) (pb k : ℕ) → mode_of c pb ≡ None → Grows (mode_of c) (mode_of (with_mode c pb k))
  grows c pb k off p m is = elim (cases_eq p pb) [
    | inl same ↦ absurd (none_some (sym off ∙ ap (λ x. mode_of c x) (sym same) ∙ is))
    | inr other ↦ (sets c pb k).modes p other ∙ is
  ]

  -- the mode that was set, and those that were there
  mode_was : (c : Choices) (pb k p m : ℕ) → mode_of (with_mode c pb k) p ≡ Some m → ((p ≡ pb) × (m ≡ k)) ⊎ (mode_of c p ≡ Some m)
  mode_was c pb k p m is = elim (cases_eq p pb) [
    | inl same ↦ inl (same, some_injective (sym is ∙ ap (λ x. mode_of (with_mode c pb k) x) same ∙ (sets c pb k).here))
    | inr other ↦ inr (sym ((sets c pb k).modes p other) ∙ is)
  ]

  module _ (g : Graph) (c : Choices) (pb k : ℕ) (off : mode_of c pb ≡ None) where
    kept_live : (q : ℕ) → IsLiveAt g (mode_of c) q → IsLiveAt g (mode_of (with_mode c pb k)) q
    kept_live q live = grown_live g (mode_of c) (mode_of (with_mode c pb k)) (grows c pb k off) q live

    kept_back : (p q : ℕ) → StepsBack g c p q → StepsBack g (with_mode c pb k) p q
    kept_back p q (inl e) = inl (record {
      owner = e.owner;
      step = record {
        number = e.step.number;
        edge = e.step.edge;
        is = e.step.is;
        owned = e.step.owned;
        ends = e.step.ends;
        starts = e.step.starts;
        taken = e.step.taken;
        chosen = grows c pb k off e.owner e.step.edge.mode e.step.chosen;
        live = kept_live e.owner e.step.live;
      };
    })
    kept_back p q (inr t) = inr (record {
      at = t.at;
      is = t.is;
      output = t.output;
      port = t.port;
      width = t.width;
      inputs = t.inputs;
      input = t.input;
      holds = t.holds;
      used = t.used;
      live = kept_live t.at.pb.0 t.live;
      leads = t.leads;
    })

    kept_way : (steps p q : ℕ) → CarriedIn g c steps p q → CarriedIn g (with_mode c pb k) steps p q
    kept_way zero p q way = way
    kept_way (suc steps) p q way = (way.0, kept_back p way.0 way.1, kept_way steps way.0 q way.2)

    kept_carried : (p q : ℕ) → Carried g c p q → Carried g (with_mode c pb k) p q
    kept_carried p q carried = record { steps = carried.steps; way = kept_way carried.steps p q carried.way }

    kept_sites : HasModes g pb → IsLiveAt g (mode_of c) pb → ((s : LSite) → HasChoice c s → IsLiveSite g (mode_of c) (is_used c) s) →
        (s : LSite) → HasChoice (with_mode c pb k) s → IsLiveSite g (mode_of (with_mode c pb k)) (is_used (with_mode c pb k)) s
    kept_sites modes live sites (site.Mode p) some = elim (cases_eq p.0 pb) [
      | inl same ↦ (subst (λ x. HasModes g x) (sym same) modes, kept_live p.0 (subst (λ x. IsLiveAt g (mode_of c) x) (sym same) live))
      | inr other ↦ grown_site g (mode_of c) (mode_of (with_mode c pb k)) (is_used c) (grows c pb k off) (site.Mode p)
          (sites (site.Mode p) (subst (λ o. IsSome o) ((sets c pb k).modes p.0 other) some))
    ]
    kept_sites modes live sites (site.Pin pin mode) some =
        grown_site g (mode_of c) (mode_of (with_mode c pb k)) (is_used c) (grows c pb k off) (site.Pin pin mode) (sites (site.Pin pin mode) some)
    kept_sites modes live sites (site.Used p) some =
        grown_site g (mode_of c) (mode_of (with_mode c pb k)) (is_used c) (grows c pb k off) (site.Used p) (sites (site.Used p) some)
    kept_sites modes live sites (site.Lut p) some =
        grown_site g (mode_of c) (mode_of (with_mode c pb k)) (is_used c) (grows c pb k off) (site.Lut p) (sites (site.Lut p) some)

  pub kept_realises : (g : Graph) (n : NetSaid) (t : Task) (r : Real) (pb k : ℕ) → mode_of r.prog pb ≡ None → IsModeOf g pb k → HasModes g pb →
      IsLiveAt g (mode_of r.prog) pb → Realises g n t r → Realises g n t (set_to r pb k)
  kept_realises g n t r pb k off there modes live real = record {
    of = record {
      modes = λ p m is. elim (mode_was r.prog pb k p m is) [
        | inl new ↦ subst (λ x. IsModeOf g x m) (sym new.0) (subst (λ x. IsModeOf g pb x) (sym new.1) there)
        | inr old ↦ real.of.modes p m old
      ];
      picks = real.of.picks;
      leaves = real.of.leaves;
      luts = real.of.luts;
    };
    homes = record {
      each = real.homes.each;
      holds = real.homes.holds;
      live = λ place leaf at. kept_live g r.prog pb k off leaf (real.homes.live place leaf at);
      used = real.homes.used;
      open' = real.homes.open';
      apart = real.homes.apart;
    };
    leaves = λ leaf used. elim (real.leaves leaf used) [
      | inl at ↦ inl at
      | inr passes ↦ inr (record { input = passes.input; holds = passes.holds })
    ];
    entries = record { pins = real.entries.pins; nets = real.entries.nets; ascending = real.entries.ascending; fixed = real.entries.fixed };
    live = kept_sites g r.prog pb k off modes live real.live;
    met = λ j need at active. (let m = real.met j need at active in record {
      last = m.last;
      is_end = m.is_end;
      source = m.source;
      is_source = m.is_source;
      carried = kept_carried g r.prog pb k off m.last m.source m.carried;
    });
  }

  kept_leaf : (r : Real) (pb k leaf : ℕ) (o : Occupant) → AgreesLeaf r leaf o → AgreesLeaf (set_to r pb k) leaf o
  kept_leaf r pb k leaf Nobody is = is
  kept_leaf r pb k leaf (Atom place) is = is
  kept_leaf r pb k leaf (Wire input) is = is

  pub kept_agrees : (r : Real) (pb k : ℕ) (made : List Decision) → mode_of r.prog pb ≡ None → AgreesAll r made → AgreesAll (set_to r pb k) made
  kept_agrees r pb k [] off all = tt
  kept_agrees r pb k (decision.Mode p m ∷ made) off all = (grows r.prog pb k off p.0 m all.0, kept_agrees r pb k made off all.1)
  kept_agrees r pb k (decision.Occupant l o ∷ made) off all = (kept_leaf r pb k l.0 o all.0, kept_agrees r pb k made off all.1)
  kept_agrees r pb k (decision.Edge p m e ∷ made) off all = (all.0, kept_agrees r pb k made off all.1)
  kept_agrees r pb k (decision.Entry p o ∷ made) off all = (all.0, kept_agrees r pb k made off all.1)
