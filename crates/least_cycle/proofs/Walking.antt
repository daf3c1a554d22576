-- Least steps from a node, nearer to it each time.
use Rattle.std.proofs.Common.{◌≡◌, ◌<◌, ◌≤◌, ◌+◌, ◌-◌, ℕ, suc, List, [], ◌∷◌, ◌++◌, Option, Some, length, slice_get, refl, sym, ap, ◌∙◌, subst, inl, inr, arith}
use Rattle.std.proofs.lemmas.List.{length_push}
use Rattle.std.proofs.lemmas.Option.{slice_get_within}
use Rattle.vtr_base.specs.Lists.{Has}
use Rattle.list_laws.proofs.Places.{get_front, get_after}
use Rattle.least_cycle.specs.Walks.{Joins, AreNodes, IsAt, AreDistances, IsDistanceOf, IsListedAt, IsLeastOf, IsLeastStep, AreLeastSteps, IsLeastWay}
use Rattle.least_cycle.proofs.Entering.{pushed_either}

module _ (table : List (List ℕ)) (first : ℕ) (distances : List (Option ℕ)) where
  -- an edge leads on from the last node to one of the distance
  abbrev pub GoesNear : ℕ → ℕ → Type 0
  GoesNear node left = (next : ℕ) × Joins table node next × IsAt distances next left

  pub record IsWalking (nearest left node : ℕ) (steps : List ℕ) : Type 0 where
    pub steps_are : AreLeastSteps table distances first nearest left steps
    pub low : left ≤ nearest
    pub last : (i : ℕ) → i + 1 ≡ length steps → slice_get steps i ≡ Some node
    pub within : node < length table
    pub next : GoesNear node left

  group_of : (node : ℕ) (group : List ℕ) → slice_get table node ≡ Some group → (x : ℕ) → Joins table node x → Has group x
  group_of node group is x joins =
      let both : Some joins.0 ≡ Some group = sym joins.1 ∙ is in
      let same : joins.0 ≡ group = cc both in
      subst (λ (g : List ℕ). Has g x) same joins.2

  pub group_low : AreNodes table → AreDistances (Joins table) (length table) first distances → (node : ℕ) (group : List ℕ) → slice_get table node ≡ Some group →
      (x : ℕ) → Has group x → x < length distances
  group_low nodes are node group is x has = let low = nodes node x (group, is, has) in omega (arith, low, are.each)

  -- there is a nearest, and a least node to step to
  pub some_nearest : (group : List ℕ) → slice_get table first ≡ Some group → (next d : ℕ) → Joins table first next → IsAt distances next d →
      ((n : ℕ) → IsDistanceOf group distances n → ⊥) → ⊥
  some_nearest group is next d joins at none = none d (next, group_of first group is next joins, at)

  pub some_step : (nearest left node : ℕ) (steps : List ℕ) → IsWalking nearest left node steps → (group : List ℕ) → slice_get table node ≡ Some group →
      ((n : ℕ) → IsListedAt group distances left n → ⊥) → ⊥
  some_step nearest left node steps w group is none = none w.next.0 (group_of node group is w.next.0 w.next.1, w.next.2)

  pub nearest_is : (group : List ℕ) → slice_get table first ≡ Some group → (nearest : ℕ) → IsLeastOf (IsDistanceOf group distances) nearest →
      IsLeastOf (λ d. (node : ℕ) × Joins table first node × IsAt distances node d) nearest
  nearest_is group is nearest r = record {
    holds = (r.holds.0, (group, is, r.holds.1), r.holds.2);
    below = λ d q. r.below d (q.0, group_of first group is q.0 q.1, q.2);
  }

  pub begin_walk : first < length table → (nearest : ℕ) → IsLeastOf (λ d. (node : ℕ) × Joins table first node × IsAt distances node d) nearest → (steps : List ℕ) → steps ≡ first ∷ [] →
      IsWalking nearest nearest first steps
  begin_walk low nearest r steps are = subst (λ (xs : List ℕ). IsWalking nearest nearest first xs) (sym are) (record {
    steps_are = record {
      long = omega arith;
      begins = refl;
      each = λ i k from to sum at_from at_to. absurd (let no_way : ⊥ = cc at_to in no_way);
    };
    low = omega arith;
    last = λ i is. (let same : i ≡ 0 = omega (arith, is) in ap (λ (k : ℕ). slice_get (first ∷ []) k) same);
    within = low;
    next = r.holds;
  })

  module _ (nodes : AreNodes table) (are : AreDistances (Joins table) (length table) first distances) (nearest left node : ℕ) (steps : List ℕ) (w : IsWalking nearest left node steps)
      (some : 0 < left) (group : List ℕ) (group_is : slice_get table node ≡ Some group) (next : ℕ) (least : IsLeastOf (IsListedAt group distances left) next) where
    step_is : IsLeastStep table distances node left next
    step_is = record {
      holds = ((group, group_is, least.holds.0), least.holds.1);
      below = λ n q. least.below n (group_of node group group_is n q.0, q.1);
    }

    each_new : (i k from to : ℕ) → i + k ≡ nearest → slice_get (steps ++ next ∷ []) i ≡ Some from → slice_get (steps ++ next ∷ []) (suc i) ≡ Some to → IsLeastStep table distances from k to
    each_new i k from to sum at_from at_to = elim (pushed_either steps next (suc i) to at_to) [
      | inl old ↦ elim (pushed_either steps next i from at_from) [
        | inl old_from ↦ w.steps_are.each i k from to sum old_from old
        | inr r ↦ absurd (omega (arith, r.place, slice_get_within steps (suc i) to old))
      ]
      | inr q ↦ elim (pushed_either steps next i from at_from) [
        | inl old_from ↦ (
            let here : slice_get steps i ≡ Some node = w.last i (omega (arith, q.place)) in
            let both : Some from ≡ Some node = sym old_from ∙ here in
            let from_is : from ≡ node = cc both in
            let k_is : k ≡ left = omega (arith, sum, q.place, w.steps_are.long) in
            subst (λ (f : ℕ). IsLeastStep table distances f k to) (sym from_is)
            (subst (λ (d : ℕ). IsLeastStep table distances node d to) (sym k_is) (subst (λ (t : ℕ). IsLeastStep table distances node left t) (sym q.is) step_is)))
        | inr r ↦ absurd (omega (arith, q.place, r.place))
      ]
    ]

    lower : suc (left - 1) ≡ left
    lower = omega (arith, some)

    pub walk_step : (steps' : List ℕ) → steps' ≡ steps ++ next ∷ [] → IsWalking nearest (left - 1) next steps'
    walk_step steps' is = subst (λ (xs : List ℕ). IsWalking nearest (left - 1) next xs) (sym is) (record {
      steps_are = record {
        long = omega (arith, w.steps_are.long, length_push steps next, some);
        begins = get_front steps (next ∷ []) 0 first w.steps_are.begins;
        each = each_new;
      };
      low = omega (arith, w.low);
      last = λ i place. get_after steps [] next i (omega (arith, place, length_push steps next));
      within = nodes node next (group, group_is, least.holds.0);
      next = are.nearer next (left - 1) (subst (λ (d : ℕ). IsAt distances next d) (sym lower) least.holds.1);
    })

  pub end_walk : AreDistances (Joins table) (length table) first distances → (nearest left node : ℕ) (steps : List ℕ) → IsWalking nearest left node steps → left ≡ 0 →
      IsLeastOf (λ d. (other : ℕ) × Joins table first other × IsAt distances other d) nearest → IsLeastWay table distances first steps
  end_walk are nearest left node steps w done r = record {
    nearest = nearest;
    is_nearest = r;
    steps = subst (λ (n : ℕ). AreLeastSteps table distances first nearest n steps) done w.steps_are;
    back = λ i last place at. (
        let here : slice_get steps i ≡ Some node = w.last i place in
        let both : Some last ≡ Some node = sym at ∙ here in
        let last_is : last ≡ node = cc both in
        let home = are.only_here w.next.0 (subst (λ (d : ℕ). IsAt distances w.next.0 d) done w.next.2) in
        subst (λ (x : ℕ). Joins table x first) (sym last_is) (subst (λ (y : ℕ). Joins table node y) home w.next.1));
  }
