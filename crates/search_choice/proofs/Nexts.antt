-- What is to be decided on a way of a need, and that the need is settled where nothing is.
use Rattle.std.proofs.Common.{◌≡◌, ◌<◌, ℕ, suc, true, false, List, Option, Some, None, length, get_or, slice_get, refl, sym, ap, ◌∙◌, subst, arith}
use Rattle.std.specs.Prelude.{IfSome, IfNone}
use Rattle.std.specs.Option.{is_some}
use Rattle.std.proofs.lemmas.Option.{slice_get_within, slice_get_read, get_or_from_slice_get}
use Rattle.vtr_base.specs.Lists.{Has}
use Rattle.list_laws.proofs.Members.{has_at}
use Rattle.pb_expand.specs.Graph.{Graph, pin_ix}
use Rattle.pb_expand.specs.Expansion.{IsExpansion}
use Rattle.task_types.specs.declared.task.Task.{Task}
use Rattle.task_types.specs.declared.task.Need.{Need}
use Rattle.task_types.specs.declared.tree.Var.{Var}
use Rattle.task_types.specs.declared.tree.Var.TheVariants as var
use Rattle.task_types.specs.declared.decision.Decision.{Decision}
use Rattle.task_types.specs.Nets.{NetSaid}
use Rattle.task_types.specs.Open.{AllowsStep, MayStart, IsActiveNeed}
use Rattle.task_types.specs.Tidy.{AreModesDecided, IsWorthwhile}
use Rattle.search_rules.specs.Closing.{LeadsBack}
use Rattle.search_rules.specs.Left.{IsNextVar, AreLeavesDecided, HasLeafHomes}
use Rattle.search_rules.specs.Settled.{TakesStep, IsSettled}
use Rattle.search_ways.specs.Traces.{AreTraced, IsReached, IsStart}
use Rattle.search_choice.specs.Opens.{IsOpenVar, IsOpenEdge}
use Rattle.search_choice.proofs.Behind.{on_way, IsBackAt, IsBefore, is_before, back_more, back_end}
use Rattle.search_choice.proofs.Decided.{sure_end, sure_source}

some_same : {X : Type 0} {x y : X} → Some x ≡ Some y → x ≡ y
some_same e = cc

-- the pin at a place of those that are reached
pub here_pin : (items xs : List ℕ) (place pin : ℕ) → xs ≡ items → slice_get items place ≡ Some pin → get_or xs place 0 ≡ pin
here_pin items xs place pin is there = get_or_from_slice_get xs place pin 0 (ap (λ l. slice_get l place) is ∙ there)

pub pin_inside : (items xs : List ℕ) (place pin room : ℕ) → xs ≡ items → ((x : ℕ) → Has items x → x < room) → slice_get xs place ≡ Some pin → pin < room
pin_inside items xs place pin room is inside there = inside pin (subst (λ (l : List ℕ). Has l pin) is (has_at xs place pin there))

pub some_is : {X : Type 0} (o : Option X) (x : X) (P : X → Type 0) → o ≡ Some x → IfSome o P → P x
some_is None x P is holds = absurd cc
some_is (Some y) x P is holds = subst P (some_same is) holds

-- the pin from which the need's net may come, among those that are reached
pub start_at : (g : Graph) (n : NetSaid) (t : Task) (made : List Decision) (need : Need) (pins : List ℕ) (place source : ℕ) → IsStart g n t made need pins place → slice_get pins place ≡ Some source → MayStart g n t made need source
start_at g n t made need pins place source started is = subst (λ x. MayStart g n t made need x) (some_same (sym started.is ∙ is)) started.start

module _ (g : Graph) (n : NetSaid) (t : Task) (made : List Decision) (modes : AreModesDecided g made) (need : Need) (source : ℕ) (start : MayStart g n t made need source) where
  pub entry_next : (number : ℕ) → IsActiveNeed t made number need → IsReached g n t made need source → IsOpenVar g t made (var.Entry (pin_ix source)) → IsNextVar g n t made (var.Entry (pin_ix source))
  entry_next number active reached open' = record {
    live = open'.live;
    undecided = open'.undecided;
    worthwhile = (modes, on_way g made n t number need source source 0 active reached refl start);
  }

  pub edge_next : (number pin steps : ℕ) (v : Var) → IsActiveNeed t made number need → IsReached g n t made need pin → LeadsBack g made steps pin source → IsOpenEdge g t made pin v → IsNextVar g n t made v
  edge_next number pin steps v active reached leads edge = record {
    live = edge.open'.live;
    undecided = edge.open'.undecided;
    worthwhile = subst (λ (w : Var). IsWorthwhile g n t made w) (sym edge.is) (modes, on_way g made n t number need pin source steps active reached leads start);
  }

  module _ (pins : List ℕ) (from : List (Option ℕ)) (traced : AreTraced g n t made need pins from) (place : ℕ) (back : IsBackAt g made pins source place) where
    pub place_inside : place < length from
    place_inside = let less = slice_get_within pins place back.pin back.is in omega (arith, less, traced.long)

    -- what is read there
    pub told_is : (read value : Option ℕ) → read ≡ get_or from place read → read ≡ value → slice_get from place ≡ Some value
    told_is read value told is = slice_get_read from (length from) place read refl place_inside told ∙ ap (λ (o : Option ℕ). Some o) is

    pub settled : IsExpansion g → AreLeavesDecided g made → HasLeafHomes g t → (IsOpenVar g t made (var.Entry (pin_ix source)) → ⊥) → slice_get from place ≡ Some None → IsSettled g n t made need
    settled law leaves homes shut told = record {
      last = back.pin;
      is_end = sure_end g made law modes leaves t homes n need back.pin (back_end g made n t need pins from traced source place back told);
      source = source;
      is_source = sure_source g made law modes leaves t homes n need source start shut;
      steps = back.steps;
      routed = back.routed;
    }

    module _ (before : ℕ) (told : slice_get from place ≡ Some (Some before)) where
      pub step_back : IsBefore g made n t need pins from traced source place back before
      step_back = is_before g made n t need pins from traced source place back before told

      pub var_next : (number : ℕ) → IsActiveNeed t made number need → ((p : ℕ) → Has pins p → IsReached g n t made need p) → (v : Option Var) → is_some v ≡ true → IfSome v (IsOpenEdge g t made step_back.pin) → IfSome v (IsNextVar g n t made)
      var_next number active reached None some open' = record {}
      var_next number active reached (Some v) some open' =
          edge_next number step_back.pin (suc back.steps) v active (reached step_back.pin (has_at pins before step_back.pin step_back.is)) (back.pin, step_back.step, back.leads) open'

      pub more_back : (v : Option Var) → is_some v ≡ false → IfNone v ((q : ℕ) → AllowsStep g made step_back.pin q → TakesStep g made step_back.pin q) → IsBackAt g made pins source before
      more_back None none taken = back_more g made n t need pins from traced source place back before step_back
          (λ p q is step. (
          let same : step_back.pin ≡ p = some_same (sym step_back.is ∙ is) in
          subst (λ x. TakesStep g made x q) same (taken q (subst (λ x. AllowsStep g made x q) (sym same) step))))
      more_back (Some v) none taken = absurd cc
