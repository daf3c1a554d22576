-- Ways back over what was reached, and what lies on them.
use Rattle.std.proofs.Common.{◌≡◌, ◌+◌, ◌<◌, ◌⊎◌, inl, inr, ℕ, zero, suc, List, [], ◌∷◌, ◌++◌, Option, Some, None, length, slice_get, refl, sym, ap, ◌∙◌, subst, arith}
use Rattle.std.proofs.lemmas.Option.{slice_get_within}
use Rattle.vtr_base.specs.Lists.{Has}
use Rattle.pb_expand.specs.declared.number.PinIx.{PinIx}
use Rattle.pb_expand.specs.Graph.{Graph, pin_ix}
use Rattle.task_types.specs.declared.task.Task.{Task}
use Rattle.task_types.specs.declared.task.Need.{Need}
use Rattle.task_types.specs.declared.decision.Decision.{Decision}
use Rattle.task_types.specs.Nets.{NetSaid}
use Rattle.task_types.specs.Open.{AllowsStep, MayEnd, MayStart, IsActiveNeed}
use Rattle.task_types.specs.Tidy.{IsWay, LeadsAcross, IsOnWay}
use Rattle.search_rules.specs.Closing.{LeadsBack}
use Rattle.search_rules.specs.Settled.{TakesStep, IsRouted, IsSettled}
use Rattle.search_ways.specs.Traces.{AreTraced, IsReached}

some_same : {X : Type 0} {x y : X} → Some x ≡ Some y → x ≡ y
some_same e = cc

module _ (g : Graph) (made : List Decision) where
  -- the pins of steps back
  abbrev pins_on : (steps p q : ℕ) → LeadsBack g made steps p q → List PinIx
  pins_on zero p q here = pin_ix p ∷ []
  pins_on (suc steps) p q leads = pin_ix p ∷ pins_on steps leads.0 q leads.2

  begins_at : (steps p q : ℕ) (leads : LeadsBack g made steps p q) → slice_get (pins_on steps p q leads) 0 ≡ Some (pin_ix p)
  begins_at zero p q here = refl
  begins_at (suc steps) p q leads = refl

  has_first : (steps p q : ℕ) (leads : LeadsBack g made steps p q) → Has (pins_on steps p q leads) (pin_ix p)
  has_first zero p q here = inl refl
  has_first (suc steps) p q leads = inl refl

  ends_at : (steps p q : ℕ) (leads : LeadsBack g made steps p q) → (rest : List PinIx) × (pins_on steps p q leads ≡ rest ++ pin_ix q ∷ [])
  ends_at zero p q here = ([], ap (λ x. pin_ix x ∷ []) here)
  ends_at (suc steps) p q leads = let rest = ends_at steps leads.0 q leads.2 in (pin_ix p ∷ rest.0, ap (λ l. pin_ix p ∷ l) rest.1)

  steps_on : (steps p q : ℕ) (leads : LeadsBack g made steps p q) (k : ℕ) (a b : PinIx) → slice_get (pins_on steps p q leads) k ≡ Some a → slice_get (pins_on steps p q leads) (k + 1) ≡ Some b → AllowsStep g made a.0 b.0
  steps_on zero p q here k a b is next = absurd (let less = slice_get_within (pin_ix p ∷ []) (k + 1) b next in let one : length (pin_ix p ∷ []) ≡ 1 = refl in omega (arith, less, one))
  steps_on (suc steps) p q leads zero a b is next =
      let first : pin_ix p ≡ a = some_same is in
      let one : 0 + 1 ≡ suc 0 = omega arith in
      let there : slice_get (pins_on steps leads.0 q leads.2) 0 ≡ Some b = ap (slice_get (pin_ix p ∷ pins_on steps leads.0 q leads.2)) (sym one) ∙ next in
      let second : pin_ix leads.0 ≡ b = some_same (sym (begins_at steps leads.0 q leads.2) ∙ there) in
      subst (λ (x : PinIx). AllowsStep g made x.0 b.0) first (subst (λ (x : PinIx). AllowsStep g made p x.0) second leads.1)
  steps_on (suc steps) p q leads (suc k) a b is next =
      let one : suc k + 1 ≡ suc (k + 1) = omega arith in
      let there : slice_get (pins_on steps leads.0 q leads.2) (k + 1) ≡ Some b = ap (slice_get (pin_ix p ∷ pins_on steps leads.0 q leads.2)) (sym one) ∙ next in
      steps_on steps leads.0 q leads.2 k a b is there

  -- steps back to a pin and steps back from it, in one
  record AreJoined (first middle last : ℕ) : Type 0 where
    pub steps : ℕ
    pub leads : LeadsBack g made steps first last
    pub has : Has (pins_on steps first last leads) (pin_ix middle)

  join : (first_steps steps first middle last : ℕ) → LeadsBack g made first_steps first middle → LeadsBack g made steps middle last → AreJoined first middle last
  join zero steps first middle last here leads =
      let all = subst (λ x. LeadsBack g made steps x last) (sym here) leads in
      record { steps = steps; leads = all; has = subst (λ x. Has (pins_on steps first last all) (pin_ix x)) here (has_first steps first last all) }
  join (suc more) steps first middle last back leads =
      let rest = join more steps back.0 middle last back.2 leads in
      record { steps = suc rest.steps; leads = (back.0, back.1, rest.leads); has = inr rest.has }

  pub on_way : (n : NetSaid) (t : Task) (number : ℕ) (need : Need) (pin source steps : ℕ) → IsActiveNeed t made number need → IsReached g n t made need pin → LeadsBack g made steps pin source → MayStart g n t made need source →
      IsOnWay g n t made pin
  on_way n t number need pin source steps active reached leads start =
      let all = join reached.steps steps reached.last pin source reached.way leads in
      let ends = ends_at all.steps reached.last source all.leads in
      record {
        number = number;
        need = need;
        active = active;
        way = pins_on all.steps reached.last source all.leads;
        across = record {
          is_way = record { steps = steps_on all.steps reached.last source all.leads };
          last = pin_ix reached.last;
          begins = begins_at all.steps reached.last source all.leads;
          source = pin_ix source;
          rest = ends.0;
          ends = ends.1;
          one = number;
          other = number;
          one_of = inl refl;
          other_of = inl refl;
          end_need = need;
          source_need = need;
          is_one = active.is;
          is_other = active.is;
          is_end = reached.is_end;
          is_source = start;
        };
        on = all.has;
      }

  -- where the walk back has come: from the pin at that place decided steps lead back to the source
  pub record IsBackAt (pins : List ℕ) (source place : ℕ) : Type 0 where
    pub pin : ℕ
    pub is : slice_get pins place ≡ Some pin
    pub steps : ℕ
    pub leads : LeadsBack g made steps pin source
    pub routed : IsRouted g made steps pin source

  pub back_first : (pins : List ℕ) (source place : ℕ) → slice_get pins place ≡ Some source → IsBackAt pins source place
  back_first pins source place is = record { pin = source; is = is; steps = 0; leads = refl; routed = refl }

  module _ (n : NetSaid) (t : Task) (need : Need) (pins : List ℕ) (from : List (Option ℕ)) (traced : AreTraced g n t made need pins from) (source place : ℕ) (back : IsBackAt pins source place) where
    -- the pin from which the one at that place was reached
    pub record IsBefore (before : ℕ) : Type 0 where
      pub less : before < place
      pub pin : ℕ
      pub is : slice_get pins before ≡ Some pin
      pub step : AllowsStep g made pin back.pin

    pub is_before : (before : ℕ) → slice_get from place ≡ Some (Some before) → IsBefore before
    is_before before told = let by = traced.each place back.pin (Some before) back.is told in record { less = by.0; pin = by.1.0; is = by.1.1; step = by.1.2 }

    pub leads_before : (before : ℕ) (is : IsBefore before) → LeadsBack g made (suc back.steps) is.pin source
    leads_before before is = (back.pin, is.step, back.leads)

    pub back_more : (before : ℕ) → IsBefore before → ((p q : ℕ) → slice_get pins before ≡ Some p → AllowsStep g made p q → TakesStep g made p q) → IsBackAt pins source before
    back_more before is taken = record {
      pin = is.pin;
      is = is.is;
      steps = suc back.steps;
      leads = (back.pin, is.step, back.leads);
      routed = (back.pin, taken is.pin back.pin is.is is.step, back.routed);
    }

    pub back_end : slice_get from place ≡ Some None → MayEnd g n t made need back.pin
    back_end told = traced.each place back.pin None back.is told
