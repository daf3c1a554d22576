-- The first need of each net.
use Rattle.std.proofs.Common.{◌≡◌, ◌≢◌, ◌<◌, ◌≤◌, ◌+◌, inl, inr, ℕ, zero, suc, List, [], ◌∷◌, ◌++◌, Some, length, slice_get, get_or, refl, sym, ap, ◌∙◌, subst, arith, length-append}
use Rattle.std.proofs.lemmas.Bool.{cases_lt}
use Rattle.std.proofs.lemmas.Option.{slice_get_within, slice_get-get_or}
use Rattle.vtr_base.specs.Lists.{Has}
use Rattle.list_laws.proofs.Members.{has_at, has_left, has_last, has_pushed}
use Rattle.list_laws.proofs.Places.{get_either}
use Rattle.task_types.specs.declared.task.Task.{Task}
use Rattle.task_types.specs.declared.task.Need.{Need}
use Rattle.task_types.specs.declared.task.Need.TheVariants as need
use Rattle.task_types.specs.declared.decision.Decision.{Decision}
use Rattle.task_types.specs.Ends.{net_of, IsFed, IsActive}
use Rattle.task_types.specs.Open.{SurelyEnters}
use Rattle.task_types.specs.Tidy.{IsFirstOfNet, AreFirsts}
use Rattle.task_reach.specs.Valid.{IsNeedOf}
use Rattle.pb_expand.specs.Graph.{Graph}
use Rattle.sparse_set.specs.Sets.{Held, held_on}
use Rattle.search_crowds.specs.Firsts.{IsTaken, IsPassed}

some_same : {X : Type 0} {x y : X} → Some x ≡ Some y → x ≡ y
some_same e = cc

pub net_inside : (g : Graph) (t : Task) (need : Need) → IsNeedOf g t need → net_of need < length t.nets
net_inside g t (need.Input atom conn net) of = of.1
net_inside g t (need.LutNet atom net) of = of.1
net_inside g t (need.Leave net) of = of
net_inside g t (need.LeaveAt net pin) of = of.0

-- a need that may be fed from outside has to be met
fed_active : (t : Task) (made : List Decision) (need : Need) → IsFed need → IsActive t (SurelyEnters t made) need
fed_active t made (need.Input atom conn net) fed = tt
fed_active t made (need.LutNet atom net) fed = tt
fed_active t made (need.Leave net) fed = absurd fed
fed_active t made (need.LeaveAt net pin) fed = absurd fed

-- the first of the needs that its net may feed
pub record IsFirstFed (t : Task) (number : ℕ) : Type 0 where
  pub need : Need
  pub is : slice_get t.needs number ≡ Some need
  pub fed : IsFed need
  pub first : (k : ℕ) (other : Need) → k < number → slice_get t.needs k ≡ Some other → IsFed other → net_of other ≢ net_of need

-- one of the first `n` needs, which the net may feed
pub record IsFedBefore (t : Task) (n net : ℕ) : Type 0 where
  pub number : ℕ
  pub before : number < n
  pub need : Need
  pub is : slice_get t.needs number ≡ Some need
  pub fed : IsFed need
  pub of : net_of need ≡ net

-- the first `n` needs were gone through
pub record AreFirstsSoFar (t : Task) (n : ℕ) (firsts : List ℕ) (nets : Held) : Type 0 where
  pub exact_to : (number : ℕ) → Has firsts number → (number < n) × IsFirstFed t number
  pub exact_from : (number : ℕ) → number < n → IsFirstFed t number → Has firsts number
  pub ascending : (i j x y : ℕ) → i < j → slice_get firsts i ≡ Some x → slice_get firsts j ≡ Some y → x < y
  pub nets_to : (net : ℕ) → Has nets.items net → IsFedBefore t n net
  pub nets_from : (net : ℕ) → IsFedBefore t n net → Has nets.items net
  pub few : length firsts ≤ n
  pub room : nets.room ≡ length t.nets

pub firsts_none : (t : Task) (nets : Held) → nets ≡ held_on [] (length t.nets) → AreFirstsSoFar t 0 [] nets
firsts_none t nets is = record {
  exact_to = λ number has. absurd has;
  exact_from = λ number less of. absurd (omega (arith, less));
  ascending = λ i j x y less at_i at_j. absurd (let bad : ⊥ = cc at_i in bad);
  nets_to = λ net has. absurd (subst (λ (h : Held). Has h.items net) is has);
  nets_from = λ net of. absurd (let less = of.before in omega (arith, less));
  few = omega arith;
  room = ap (λ (h : Held). h.room) is;
}

module _ (t : Task) (n : ℕ) (firsts : List ℕ) (old new : Held) (need : Need) (at : slice_get t.needs n ≡ Some need) (are : AreFirstsSoFar t n firsts old) where
  later : (net : ℕ) → IsFedBefore t n net → IsFedBefore t (n + 1) net
  later net of = record { number = of.number; before = (let less = of.before in omega (arith, less)); need = of.need; is = of.is; fed = of.fed; of = of.of }

  here : (k : ℕ) (other : Need) → k ≡ n → slice_get t.needs k ≡ Some other → other ≡ need
  here k other same is = some_same (sym is ∙ ap (λ i. slice_get t.needs i) same ∙ at)

  module _ (taken : IsTaken old new need) where
    items : new.items ≡ old.items ++ net_of need ∷ []
    items = ap (λ (h : Held). h.items) taken.joins.is

    is_first : IsFirstFed t n
    is_first = record {
      need = need;
      is = at;
      fed = taken.fed;
      first = λ k other less is fed same. taken.joins.apart (are.nets_from (net_of need) (record { number = k; before = less; need = other; is = is; fed = fed; of = same }));
    }

    ascends : (i j x y : ℕ) → i < j → slice_get (firsts ++ n ∷ []) i ≡ Some x → slice_get (firsts ++ n ∷ []) j ≡ Some y → x < y
    ascends i j x y less at_i at_j = elim (get_either firsts (n ∷ []) j y at_j) [
      | inl front_j ↦ elim (get_either firsts (n ∷ []) i x at_i) [
        | inl front_i ↦ are.ascending i j x y less front_i front_j
        | inr last_i ↦ absurd (let inside = slice_get_within firsts j y front_j in omega (arith, inside, last_i.1, less))
      ]
      | inr last_j ↦ elim (get_either firsts (n ∷ []) i x at_i) [
        | inl front_i ↦ (
            let before = (are.exact_to x (has_at firsts i x front_i)).0 in
            let zero_j = last_place last_j.0 y last_j.2 in
            omega (arith, before, zero_j.1))
        | inr last_i ↦ absurd (
            let zero_i = last_place last_i.0 x last_i.2 in
            let zero_j = last_place last_j.0 y last_j.2 in
            omega (arith, less, last_i.1, last_j.1, zero_i.0, zero_j.0))
      ]
    ]
      where
        last_place : (k z : ℕ) → slice_get (n ∷ []) k ≡ Some z → (k ≡ 0) × (z ≡ n)
        last_place zero z is = (refl, let e : z ≡ n = cc is in e)
        last_place (suc k) z is = absurd (let bad : ⊥ = cc is in bad)

    pub firsts_push : AreFirstsSoFar t (n + 1) (firsts ++ n ∷ []) new
    firsts_push = record {
      exact_to = λ number has. elim (has_pushed firsts n number has) [
        | inl before ↦ (let r = are.exact_to number before in (omega (arith, r.0), r.1))
        | inr same ↦ (omega (arith, same), subst (λ k. IsFirstFed t k) (sym same) is_first)
      ];
      exact_from = λ number less of. elim (cases_lt number n) [
        | inl before ↦ has_left firsts (n ∷ []) number (are.exact_from number before of)
        | inr met ↦ (let same : n ≡ number = omega (arith, less, met) in subst (λ k. Has (firsts ++ n ∷ []) k) same (has_last firsts n))
      ];
      ascending = ascends;
      nets_to = λ net has. elim (has_pushed old.items (net_of need) net (subst (λ l. Has l net) items has)) [
        | inl before ↦ later net (are.nets_to net before)
        | inr same ↦ record { number = n; before = omega arith; need = need; is = at; fed = taken.fed; of = sym same }
      ];
      nets_from = λ net of. subst (λ l. Has l net) (sym items) (elim (cases_lt of.number n) [
        | inl before ↦ has_left old.items (net_of need ∷ []) net (are.nets_from net (record { number = of.number; before = before; need = of.need; is = of.is; fed = of.fed; of = of.of }))
        | inr met ↦ (
            let same : of.number ≡ n = (let less = of.before in omega (arith, less, met)) in
            subst (λ m. Has (old.items ++ net_of need ∷ []) m) (sym (ap (λ (x : Need). net_of x) (here of.number of.need same of.is)) ∙ of.of) (has_last old.items (net_of need)))
      ]);
      few = omega (arith, length-append firsts (n ∷ []), are.few);
      room = ap (λ (h : Held). h.room) taken.joins.is ∙ are.room;
    }

  pub firsts_pass : IsPassed old new need → AreFirstsSoFar t (n + 1) firsts new
  firsts_pass passed = record {
    exact_to = λ number has. (let r = are.exact_to number has in (omega (arith, r.0), r.1));
    exact_from = λ number less of. elim (cases_lt number n) [
      | inl before ↦ are.exact_from number before of
      | inr met ↦ absurd (
          let same : number ≡ n = omega (arith, less, met) in
          let is : of.need ≡ need = here number of.need same of.is in
          let there = are.nets_to (net_of need) (passed.there (subst (λ (x : Need). IsFed x) is of.fed)) in
          of.first there.number there.need (let before = there.before in omega (arith, before, same)) there.is there.fed (there.of ∙ sym (ap (λ (x : Need). net_of x) is)))
    ];
    ascending = are.ascending;
    nets_to = λ net has. later net (are.nets_to net (subst (λ (h : Held). Has h.items net) passed.same has));
    nets_from = λ net of. subst (λ (h : Held). Has h.items net) (sym passed.same) (elim (cases_lt of.number n) [
      | inl before ↦ are.nets_from net (record { number = of.number; before = before; need = of.need; is = of.is; fed = of.fed; of = of.of })
      | inr met ↦ (
          let same : of.number ≡ n = (let less = of.before in omega (arith, less, met)) in
          let is : of.need ≡ need = here of.number of.need same of.is in
          subst (λ m. Has old.items m) (sym (ap (λ (x : Need). net_of x) is) ∙ of.of) (passed.there (subst (λ (x : Need). IsFed x) is of.fed)))
    ]);
    few = omega (arith, are.few);
    room = ap (λ (h : Held). h.room) passed.same ∙ are.room;
  }

-- one need more of a list that was lent
module _ (t : Task) (needs : List Need) (n : ℕ) (firsts : List ℕ) (old new : Held) (d : Need) (same : needs ≡ t.needs) (less : n < length needs) (are : AreFirstsSoFar t n firsts old) where
  is_next : slice_get t.needs n ≡ Some (get_or needs n d)
  is_next = ap (λ (l : List Need). slice_get l n) (sym same) ∙ slice_get-get_or needs n d less

  pub next_taken : IsTaken old new (get_or needs n d) → AreFirstsSoFar t (n + 1) (firsts ++ n ∷ []) new
  next_taken taken = firsts_push t n firsts old new (get_or needs n d) is_next are taken

  pub next_passed : IsPassed old new (get_or needs n d) → AreFirstsSoFar t (n + 1) firsts new
  next_passed passed = firsts_pass t n firsts old new (get_or needs n d) is_next are passed

module _ (t : Task) (made : List Decision) where
  to_net : (number : ℕ) → IsFirstFed t number → IsFirstOfNet t made number
  to_net number of = record {
    need = of.need;
    active = record { is = of.is; active = fed_active t made of.need of.fed };
    fed = of.fed;
    first = λ k other less active fed. of.first k other less active.is fed;
  }

  from_net : (number : ℕ) → IsFirstOfNet t made number → IsFirstFed t number
  from_net number of = record {
    need = of.need;
    is = of.active.is;
    fed = of.fed;
    first = λ k other less is fed. of.first k other less (record { is = is; active = fed_active t made other fed }) fed;
  }

  pub firsts_all : (n : ℕ) (firsts : List ℕ) (nets : Held) → length t.needs ≤ n → AreFirstsSoFar t n firsts nets → AreFirsts t made firsts
  firsts_all n firsts nets whole are = record {
    exact_to = λ number has. to_net number (are.exact_to number has).1;
    exact_from = λ number of. (
        let inside = slice_get_within t.needs number of.need of.active.is in
        are.exact_from number (omega (arith, inside, whole)) (from_net number of));
    ascending = are.ascending;
  }
