-- Ways that a search finds, and cuts where it finds none.
use Rattle.std.proofs.Common.{◌≡◌, ◌+◌, ◌<◌, inl, inr, ℕ, zero, suc, List, [], ◌∷◌, Option, Some, None, length, map, slice_get, refl, sym, ap, subst, arith}
use Rattle.std.specs.List.{All}
use Rattle.std.proofs.lemmas.Option.{slice_get_within}
use Rattle.std.proofs.lemmas.List.Elements.{All-nil, All-cons}
use Rattle.vtr_base.specs.Lists.{Has}
use Rattle.list_laws.proofs.Members.{at_has, has_map, from_map}
use Rattle.list_laws.proofs.Places.{element}
use Rattle.pb_expand.specs.declared.number.PinIx.{PinIx}
use Rattle.pb_expand.specs.Graph.{Graph, pin_ix}
use Rattle.task_types.specs.declared.task.Task.{Task}
use Rattle.task_types.specs.declared.task.Need.{Need}
use Rattle.task_types.specs.declared.tree.TreeNode.TheVariants.{Cut}
use Rattle.task_types.specs.declared.decision.Decision.{Decision}
use Rattle.task_types.specs.Nets.{NetSaid}
use Rattle.task_types.specs.Open.{AllowsStep, IsActiveNeed}
use Rattle.search_rules.specs.Closing.{Closes, LeadsBack, HasWay}
use Rattle.search_ways.specs.Traces.{IsReachedBy, AreTraced, IsReached, IsStart, AreShut}

-- one step more at the end of steps back
pub leads_on : (g : Graph) (made : List Decision) (steps p q r : ℕ) → LeadsBack g made steps p q → AllowsStep g made q r → LeadsBack g made (suc steps) p r
leads_on g made zero p q r here step = (r, subst (λ x. AllowsStep g made x r) (sym here) step, refl)
leads_on g made (suc steps) p q r leads step = (leads.0, leads.1, leads_on g made steps leads.0 q r leads.2 step)

module _ (g : Graph) (n : NetSaid) (t : Task) (made : List Decision) (need : Need) (pins : List ℕ) where
  module _ (from : List (Option ℕ)) (traced : AreTraced g n t made need pins from) where
    reached_by : (before : Option ℕ) (place pin : ℕ) → ((earlier p : ℕ) → earlier < place → slice_get pins earlier ≡ Some p → IsReached g n t made need p) → IsReachedBy g n t made need pins before place pin → IsReached g n t made need pin
    reached_by None place pin below end = record { last = pin; is_end = end; steps = 0; way = refl }
    reached_by (Some before) place pin below by =
        let back = below before by.1.0 by.0 by.1.1 in
        record { last = back.last; is_end = back.is_end; steps = suc back.steps; way = leads_on g made back.steps back.last by.1.0 pin back.way by.1.2 }

    -- each pin that stands before place `bound` is reached
    reached_below : (bound place pin : ℕ) → place < bound → slice_get pins place ≡ Some pin → IsReached g n t made need pin
    reached_below zero place pin less is = absurd (omega (arith, less))
    reached_below (suc bound) place pin less is =
        let within = slice_get_within pins place pin is in
        let told = element from place (omega (arith, within, traced.long)) in
        reached_by told.0 place pin (λ earlier p before at. reached_below bound earlier p (omega (arith, before, less)) at) (traced.each place pin told.0 is told.1)

    is_reached : (place pin : ℕ) → slice_get pins place ≡ Some pin → IsReached g n t made need pin
    is_reached place pin is = reached_below (place + 1) place pin (omega arith) is

    pub all_reached : (pin : ℕ) → Has pins pin → IsReached g n t made need pin
    all_reached pin has = let k = at_has pins pin has in is_reached k.0 pin k.1

    pub has_way : (place : ℕ) → IsStart g n t made need pins place → HasWay g n t made need
    has_way place start =
        let back = is_reached place start.pin start.is in
        record { last = back.last; is_end = back.is_end; source = start.pin; is_source = start.start; steps = back.steps; way = back.way }

  pub no_way : AreShut g n t made need pins → HasWay g n t made need → ⊥
  no_way shut way = along way.steps way.last (shut.ends way.last way.is_end) way.way
    where
      along : (steps p : ℕ) → Has pins p → LeadsBack g made steps p way.source → ⊥
      along zero p has here = shut.sourceless way.source way.is_source (subst (λ x. Has pins x) here has)
      along (suc steps) p has leads = along steps leads.0 (shut.closed p leads.0 has leads.1) leads.2

  -- the pins that a search reaches in vain are a cut

  listed : (p : ℕ) → Has (map pin_ix pins) (pin_ix p) → Has pins p
  listed p has = let from = from_map pin_ix pins (pin_ix p) has in subst (λ x. Has pins x) (ap (λ (x : PinIx). x.0) (sym from.is)) from.has

  pub cut_closes : (number : ℕ) → IsActiveNeed t made number need → AreShut g n t made need pins → ((p : ℕ) → Has pins p → p < length g.pins) → Closes g n t made (Cut number (map pin_ix pins))
  cut_closes number active shut inside = record {
    closing = record {};
    accepted = record {
      need = need;
      active = active;
      ends = λ p end. has_map pin_ix pins p (shut.ends p end);
      closed = λ p q has step. has_map pin_ix pins q (shut.closed p q (listed p has) step);
      sourceless = λ p start has. shut.sourceless p start (listed p has);
    };
    inside = (slice_get_within t.needs number need active.is, all pins inside);
  }
    where
      all : (xs : List ℕ) → ((p : ℕ) → Has xs p → p < length g.pins) → All (λ (pin : PinIx). pin.0 < length g.pins) (map pin_ix xs)
      all [] within = All-nil (λ (pin : PinIx). pin.0 < length g.pins)
      all (x ∷ xs) within = All-cons (λ (pin : PinIx). pin.0 < length g.pins) (pin_ix x) (map pin_ix xs) (within x (inl refl)) (all xs (λ p has. within p (inr has)))
