-- Needs one after the other: their nets, and whether each is blocked.
use Rattle.std.proofs.Common.{◌≡◌, ◌≢◌, ◌<◌, ◌≤◌, ◌+◌, inl, inr, ℕ, List, [], ◌∷◌, ◌++◌, Some, None, length, slice_get, sym, ap, ◌∙◌, subst, arith}
use Rattle.std.proofs.lemmas.Option.{slice_get_within}
use Rattle.std.proofs.lemmas.Bool.{cases_lt}
use Rattle.vtr_base.specs.Lists.{Has}
use Rattle.list_laws.proofs.Members.{has_at, at_has, has_left, has_last, has_pushed}
use Rattle.pb_expand.specs.declared.number.PinIx.{PinIx}
use Rattle.pb_expand.specs.Graph.{Graph, pin_ix}
use Rattle.pb_expand.specs.Expansion.{IsExpansion}
use Rattle.task_types.specs.declared.task.Task.{Task}
use Rattle.task_types.specs.declared.task.Need.{Need}
use Rattle.task_types.specs.declared.task.Need.TheVariants as need
use Rattle.task_types.specs.declared.decision.Decision.{Decision}
use Rattle.task_types.specs.Nets.{NetSaid}
use Rattle.task_types.specs.Ends.{net_of, IsActive}
use Rattle.task_types.specs.Open.{IsActiveNeed, SurelyEnters}
use Rattle.task_types.specs.Nodes.{IsCrowd}
use Rattle.sparse_set.specs.Sets.{Held, Joins}
use Rattle.task_reach.specs.Gains.{Gains}
use Rattle.task_reach.specs.Valid.{IsTaskOf, IsNeedOf}
use Rattle.node_crowd.specs.Blocking.{AreApart, AreBlocked, IsBlocked}
use Rattle.node_crowd.proofs.Ways.{way_of_free, free_of_way, end_inside}

some_same : {X : Type 0} {x y : X} → Some x ≡ Some y → x ≡ y
some_same e = cc

-- the need at a place of the list
pub record IsNeedAt (t : Task) (needs : List ℕ) (k : ℕ) (need : Need) : Type 0 where
  pub number : ℕ
  pub is : slice_get needs k ≡ Some number
  pub need_is : slice_get t.needs number ≡ Some need

pub record FromNeed (t : Task) (needs : List ℕ) (n net : ℕ) : Type 0 where
  pub place : ℕ
  pub before : place < n
  pub need : Need
  pub at : IsNeedAt t needs place need
  pub of : net ≡ net_of need

-- the first needs are active, and of different nets, which are in the set
pub record AreSoFar (t : Task) (made : List Decision) (needs : List ℕ) (n : ℕ) (nets : Held) : Type 0 where
  pub active : (k x : ℕ) → k < n → slice_get needs k ≡ Some x → (need : Need) × IsActiveNeed t made x need
  pub there : (k : ℕ) (need : Need) → k < n → IsNeedAt t needs k need → Has nets.items (net_of need)
  pub from : (net : ℕ) → Has nets.items net → FromNeed t needs n net
  pub apart : (j k : ℕ) (a b : Need) → j < k → k < n → IsNeedAt t needs j a → IsNeedAt t needs k b → net_of a ≢ net_of b
  pub room : nets.room ≡ length t.nets

module _ (t : Task) (made : List Decision) (needs : List ℕ) where
  pub none_yet : (nets : Held) → nets.items ≡ [] → nets.room ≡ length t.nets → AreSoFar t made needs 0 nets
  none_yet nets none room = record {
    active = λ k x less is. absurd (omega (arith, less));
    there = λ k need less is. absurd (omega (arith, less));
    from = λ net has. absurd (subst (λ l. Has l net) none has);
    apart = λ j k a b before less at_j at_k. absurd (omega (arith, less));
    room = room;
  }

  same_need : (k x : ℕ) (need other : Need) → slice_get needs k ≡ Some x → slice_get t.needs x ≡ Some need → IsNeedAt t needs k other → other ≡ need
  same_need k x need other is need_is at =
      let number : at.number ≡ x = some_same (sym at.is ∙ is) in
      some_same (sym at.need_is ∙ ap (λ i. slice_get t.needs i) number ∙ need_is)

  pub one_more : (n x : ℕ) (need : Need) (old new : Held) → slice_get needs n ≡ Some x → IsActiveNeed t made x need → Joins old new (net_of need) → AreSoFar t made needs n old → AreSoFar t made needs (n + 1) new
  one_more n x need old new is active joins so_far =
      let items : new.items ≡ old.items ++ net_of need ∷ [] = ap (λ (h : Held). h.items) joins.is in
      record {
        active = λ k y less found. elim (cases_lt k n) [
          | inl before ↦ so_far.active k y before found
          | inr met ↦ (
              let place : k ≡ n = omega (arith, met, less) in
              let both : Some x ≡ Some y = sym is ∙ ap (λ i. slice_get needs i) (sym place) ∙ found in
              let number : x ≡ y = some_same both in
              (need, subst (λ z. IsActiveNeed t made z need) number active))
        ];
        there = λ k other less at. subst (λ l. Has l (net_of other)) (sym items) (elim (cases_lt k n) [
          | inl before ↦ has_left old.items (net_of need ∷ []) (net_of other) (so_far.there k other before at)
          | inr met ↦ (
              let place : k ≡ n = omega (arith, met, less) in
              let same = same_need n x need other is active.is (subst (λ i. IsNeedAt t needs i other) place at) in
              subst (λ (z : Need). Has (old.items ++ net_of need ∷ []) (net_of z)) (sym same) (has_last old.items (net_of need)))
        ]);
        from = λ net has. elim (has_pushed old.items (net_of need) net (subst (λ l. Has l net) items has)) [
          | inl was ↦ (let r = so_far.from net was in record { place = r.place; before = omega (arith, r.before); need = r.need; at = r.at; of = r.of })
          | inr new_one ↦ record { place = n; before = omega arith; need = need; at = record { number = x; is = is; need_is = active.is }; of = new_one }
        ];
        apart = λ j k a b before less at_j at_k. elim (cases_lt k n) [
          | inl earlier ↦ so_far.apart j k a b before earlier at_j at_k
          | inr met ↦ (
              let place : k ≡ n = omega (arith, met, less) in
              let same = same_need n x need b is active.is (subst (λ i. IsNeedAt t needs i b) place at_k) in
              λ nets. joins.apart (subst (λ z. Has old.items z) (nets ∙ ap net_of same) (so_far.there j a (omega (arith, before, place)) at_j)))
        ];
        room = ap (λ (h : Held). h.room) joins.is ∙ so_far.room;
      }

  -- a net that is there already
  pub net_twice : (n x : ℕ) (need : Need) (nets : Held) → slice_get needs n ≡ Some x → slice_get t.needs x ≡ Some need → Has nets.items (net_of need) → AreSoFar t made needs n nets → AreApart t made needs → ⊥
  net_twice n x need nets is need_is has so_far all =
      let r = so_far.from (net_of need) has in
      all.apart r.place n r.at.number x r.need need r.before r.at.is is r.at.need_is need_is (sym r.of)

  pub no_need : (n x : ℕ) → slice_get needs n ≡ Some x → slice_get t.needs x ≡ None → AreApart t made needs → ⊥
  no_need n x is none all = let found = all.active x (has_at needs n x is) in let bad : ⊥ = cc (sym found.1.is ∙ none) in bad

  pub not_active : (n x : ℕ) (need : Need) → slice_get needs n ≡ Some x → slice_get t.needs x ≡ Some need → (IsActive t (SurelyEnters t made) need → ⊥) → AreApart t made needs → ⊥
  not_active n x need is need_is none all =
      let found = all.active x (has_at needs n x is) in
      let same : found.0 ≡ need = some_same (sym found.1.is ∙ need_is) in
      none (subst (λ z. IsActive t (SurelyEnters t made) z) same found.1.active)

  pub all_apart : (n : ℕ) (nets : Held) → length needs ≤ n → AreSoFar t made needs n nets → AreApart t made needs
  all_apart n nets all so_far = record {
    active = λ number has. let k = at_has needs number has in let less = slice_get_within needs k.0 number k.1 in so_far.active k.0 number (omega (arith, less, all)) k.1;
    apart = λ j k x y a b before at_j at_k a_is b_is. let less = slice_get_within needs k y at_k in
        so_far.apart j k a b before (omega (arith, less, all)) (record { number = x; is = at_j; need_is = a_is }) (record { number = y; is = at_k; need_is = b_is });
  }

-- the first needs are blocked
pub record AreBlockedTo (g : Graph) (n : NetSaid) (t : Task) (made : List Decision) (needs listed : List ℕ) (end : ℕ) : Type 0 where
  pub each : (k : ℕ) (need : Need) → k < end → IsNeedAt t needs k need → IsBlocked g n t made need listed

module _ (g : Graph) (n : NetSaid) (t : Task) (made : List Decision) (needs listed : List ℕ) where
  pub blocked_none : AreBlockedTo g n t made needs listed 0
  blocked_none = record { each = λ k need less at. absurd (omega (arith, less)) }

  pub blocked_more : (k x : ℕ) → slice_get needs k ≡ Some x → ((need : Need) → slice_get t.needs x ≡ Some need → IsBlocked g n t made need listed) → AreBlockedTo g n t made needs listed k → AreBlockedTo g n t made needs listed (k + 1)
  blocked_more k x is blocked so_far = record {
    each = λ j need less at. elim (cases_lt j k) [
      | inl before ↦ so_far.each j need before at
      | inr met ↦ (
          let place : j ≡ k = omega (arith, met, less) in
          let both : Some at.number ≡ Some x = sym at.is ∙ ap (λ i. slice_get needs i) place ∙ is in
          let number : at.number ≡ x = some_same both in
          blocked need (ap (λ i. slice_get t.needs i) (sym number) ∙ at.need_is))
    ];
  }

  pub blocked_all : (end : ℕ) → length needs ≤ end → AreBlockedTo g n t made needs listed end → AreBlocked g n t made needs listed
  blocked_all end all so_far = record {
    each = λ number need has is. let k = at_has needs number has in let less = slice_get_within needs k.0 number k.1 in
        so_far.each k.0 need (omega (arith, less, all)) (record { number = number; is = k.1; need_is = is });
  }

-- the crowd

module _ (g : Graph) (n : NetSaid) (t : Task) (made : List Decision) (needs : List ℕ) (pins : List PinIx) (listed : List ℕ) (law : IsExpansion g) (task : IsTaskOf g t) (gains : Gains [] listed (λ pin. (pin < length g.pins) × Has pins (pin_ix pin))) where
  pub crowd_to : length pins < length needs → AreApart t made needs → AreBlocked g n t made needs listed → IsCrowd g n t made needs pins
  crowd_to fewer apart blocked = record {
    active = apart.active;
    apart = apart.apart;
    fewer = fewer;
    blocked = λ number steps p q need has is end start way. (blocked.each number need has is).each steps p q end start (way_of_free g made pins listed gains steps p q way);
  }

  pub crowd_blocked : IsCrowd g n t made needs pins → AreBlocked g n t made needs listed
  crowd_blocked crowd = record {
    each = λ number need has is. record {
      each = λ steps p q end start way.
          crowd.blocked number steps p q need has is end start (free_of_way g made pins listed gains steps p q law (end_inside g n t made need p (task.needs number need is) end) way);
    };
  }

pub crowd_apart : (g : Graph) (n : NetSaid) (t : Task) (made : List Decision) (needs : List ℕ) (pins : List PinIx) → IsCrowd g n t made needs pins → AreApart t made needs
crowd_apart g n t made needs pins crowd = record { active = crowd.active; apart = crowd.apart }

-- the net of a need is one of the task
pub net_inside : (g : Graph) (t : Task) (need : Need) → IsNeedOf g t need → net_of need < length t.nets
net_inside g t (need.Input atom conn net) of = of.1
net_inside g t (need.LutNet atom net) of = of.1
net_inside g t (need.Leave net) of = of
net_inside g t (need.LeaveAt net pin) of = of.0
