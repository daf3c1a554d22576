-- Taking a position out of its links, and putting it back, over any test of which positions are out.
use Rattle.std.proofs.Common.{◌≡◌, ◌≢◌, ◌<◌, ◌≤◌, ◌+◌, ◌-◌, ◌⊎◌, inl, inr, ℕ, List, length, get_or, set, sym, ◌∙◌, subst, arith}
use Rattle.std.specs.Prelude.{slice_index}
use Rattle.std.proofs.lemmas.List.{length-set, get_or-set_same, get_or-set_other}
use Rattle.std.proofs.lemmas.Bool.{cases_eq, cases_lt, cond-true, cond-false, lt-ltb, le-ltb}
use Rattle.link_lists.specs.Links.{list_at, from_at, IsNearest, LeadsTo, AreLinks}

pub list_at-position : (owner : List ℕ) (s : ℕ) → s < length owner → list_at owner s ≡ slice_index owner s
unfolding list_at
list_at-position owner s h = cond-true _ _ _ (lt-ltb s (length owner) h)

pub list_at-head : (owner : List ℕ) (s : ℕ) → length owner ≤ s → list_at owner s ≡ s - length owner
unfolding list_at
list_at-head owner s h = cond-false _ _ _ (le-ltb s (length owner) h)

pub from_at-position : (owner : List ℕ) (s : ℕ) → s < length owner → from_at owner s ≡ s + 1
unfolding from_at
from_at-position owner s h = cond-true _ _ _ (lt-ltb s (length owner) h)

pub from_at-head : (owner : List ℕ) (s : ℕ) → length owner ≤ s → from_at owner s ≡ 0
unfolding from_at
from_at-head owner s h = cond-false _ _ _ (le-ltb s (length owner) h)

-- the first position of a list is one
no_nearer : {owner : List ℕ} {Out : ℕ → Type 0} {list from i j : ℕ} →
    IsNearest owner Out list from i → IsNearest owner Out list from j → i < j → ⊥
no_nearer {owner = owner} {i = i} a b less =
    let h : i < length owner = omega (arith, b.upto) in
    b.least i a.behind less (a.owned h) (a.inside h)

pub one_nearest : {owner : List ℕ} {Out : ℕ → Type 0} {list from i j : ℕ} →
    IsNearest owner Out list from i → IsNearest owner Out list from j → i ≡ j
one_nearest {i = i} {j = j} a b = elim (cases_lt i j) [
  | inl less ↦ absurd (no_nearer a b less)
  | inr more ↦ elim (cases_lt j i) [ inl less ↦ absurd (no_nearer b a less) | inr other ↦ omega arith ]
]

-- one slot leads to a position
no_less_slot : {slots : ℕ} {owner : List ℕ} {Out : ℕ → Type 0} {s t i : ℕ} →
    LeadsTo slots owner Out s i → LeadsTo slots owner Out t i → i < length owner → s < t → ⊥
no_less_slot {owner = owner} {s = s} {t = t} {i = i} a b inside less =
    let same : list_at owner s ≡ list_at owner t = sym (a.least.owned inside) ∙ b.least.owned inside in
    elim (cases_lt t (length owner)) [
      | inl position ↦
          (let first : s < length owner = omega arith in
          let behind : t < i = omega (arith, from_at-position owner t position, b.least.behind) in
          a.least.least t (omega (arith, from_at-position owner s first)) behind
          (sym (list_at-position owner t position) ∙ sym same) (b.inside position))
      | inr head ↦ elim (cases_lt s (length owner)) [
        | inl position ↦
            (let behind : s < i = omega (arith, from_at-position owner s position, a.least.behind) in
            b.least.least s (omega (arith, from_at-head owner t head)) behind
            (sym (list_at-position owner s position) ∙ same) (a.inside position))
        | inr other ↦
            omega (arith, list_at-head owner s other, list_at-head owner t head, same)
      ]
    ]

pub one_slot : {slots : ℕ} {owner : List ℕ} {Out : ℕ → Type 0} {s t i : ℕ} →
    LeadsTo slots owner Out s i → LeadsTo slots owner Out t i → i < length owner → s ≡ t
one_slot {s = s} {t = t} a b inside = elim (cases_lt s t) [
  | inl less ↦ absurd (no_less_slot a b inside less)
  | inr more ↦ elim (cases_lt t s) [ inl less ↦ absurd (no_less_slot b a inside less) | inr other ↦ omega arith ]
]

-- a slot that leads to a position is no position from there on
pub before_least : {owner : List ℕ} {Out : ℕ → Type 0} {s i : ℕ} → s < length owner →
    IsNearest owner Out (list_at owner s) (from_at owner s) i → s < i
before_least {owner = owner} {s = s} position least =
    omega (arith, from_at-position owner s position, least.behind)

-- where `Out2` holds of one position more than `Out`: what leads past it, and what doesn't lead to it
module _ (owner : List ℕ) (Out Out2 : ℕ → Type 0) (i : ℕ)
    (within : i < length owner) (live : Out i → ⊥) (gone : Out2 i)
    (more : (k : ℕ) → Out k → Out2 k) (only : (k : ℕ) → Out2 k → Out k ⊎ (k ≡ i)) where
  fewer : (k : ℕ) → (Out2 k → ⊥) → Out k → ⊥
  fewer k in_it out = in_it (more k out)

  others : (k : ℕ) → (k ≡ i → ⊥) → (Out k → ⊥) → Out2 k → ⊥
  others k apart in_it out = elim (only k out) [ inl before ↦ in_it before | inr same ↦ apart same ]

  over : (list from j : ℕ) → IsNearest owner Out list from i → IsNearest owner Out list (i + 1) j →
      IsNearest owner Out2 list from j
  over list from j here after = record {
    upto = after.upto;
    behind = omega (arith, here.behind, after.behind);
    inside = λ inside out. others j (λ e. omega (arith, after.behind)) (after.inside inside) out;
    owned = after.owned;
    least = λ k behind less same in_it. elim (cases_lt k i) [
      | inl before ↦ here.least k behind before same (fewer k in_it)
      | inr upto ↦ elim (cases_eq k i) [
        | inl e ↦ in_it (subst Out2 (sym e) gone)
        | inr apart ↦ after.least k (omega arith) less same (fewer k in_it)
      ]
    ];
  }

  less : (list from j : ℕ) → (j ≡ i → ⊥) → IsNearest owner Out list from j → IsNearest owner Out2 list from j
  less list from j apart least = record {
    upto = least.upto;
    behind = least.behind;
    inside = λ inside. others j apart (least.inside inside);
    owned = least.owned;
    least = λ k behind less same in_it. least.least k behind less same (fewer k in_it);
  }

  -- back again, where the position doesn't lie between
  back_less : (list from j : ℕ) → (from ≤ i → i < j → slice_index owner i ≡ list → ⊥) →
      IsNearest owner Out2 list from j → IsNearest owner Out list from j
  back_less list from j apart least = record {
    upto = least.upto;
    behind = least.behind;
    inside = λ inside. fewer j (least.inside inside);
    owned = least.owned;
    least = λ k behind less same in_it. elim (cases_eq k i) [
      | inl e ↦ apart (omega arith) (omega arith) (rw (← e) same)
      | inr other ↦ least.least k behind less same (others k other in_it)
    ];
  }

  -- and where it does, it is the first
  between : (list from j : ℕ) → from ≤ i → i < j → slice_index owner i ≡ list →
      IsNearest owner Out2 list from j → IsNearest owner Out list from i
  between list from j behind below same least = record {
    upto = omega (arith, within);
    behind = behind;
    inside = λ _. live;
    owned = λ _. same;
    least = λ k behind less same in_it. least.least k behind (omega arith) same (others k (λ e. omega arith) in_it);
  }

  after_in : (j : ℕ) → IsNearest owner Out (slice_index owner i) (i + 1) j → j ≡ i → ⊥
  after_in j after e = omega (arith, after.behind)

  -- the slot that leads to the position is another
  before_in : (slots s : ℕ) → LeadsTo slots owner Out s i → s ≡ i → ⊥
  before_in slots s before e =
      let position : s < length owner = omega (arith, within) in
      omega (arith, before_least position before.least)

  module _ (slots : ℕ) (next prev : List ℕ) (room : length owner ≤ slots) where
    -- out: what led to the position leads past it
    pub unlinks : AreLinks slots owner Out next prev →
        AreLinks slots owner Out2 (set next (slice_index prev i) (slice_index next i)) (set prev (slice_index next i) (slice_index prev i))
    unlinks links = record {
      next_length = rw length-set links.next_length;
      prev_length = rw length-set links.prev_length;
      onward = λ s inside on. elim (cases_eq s p) [
        | inl e ↦
            (let put : get_or (set next p a) s 0 ≡ a =
            subst (λ t. get_or (set next p a) t 0 ≡ a) (sym e)
            (get_or-set_same next p a 0 (omega (arith, links.next_length, before.within))) in
            rw put (rw e past))
        | inr apart ↦
            (let kept : get_or (set next p a) s 0 ≡ slice_index next s = get_or-set_other next p s a 0 apart in
            let on_before : s < length owner → Out s → ⊥ = λ h. fewer s (on h) in
            rw kept (less (list_at owner s) (from_at owner s) (slice_index next s)
            (λ e. apart (one_slot
            (let lead : LeadsTo slots owner Out s i = record { within = inside; inside = on_before; least = rw e at (links.onward s inside on_before) } in lead)
            before within))
            (links.onward s inside on_before)))
      ];
      back = λ j inside in_it. elim (cases_eq j a) [
        | inl e ↦
            (let put : get_or (set prev a p) j 0 ≡ p =
            subst (λ t. get_or (set prev a p) t 0 ≡ p) (sym e)
            (get_or-set_same prev a p 0 (omega (arith, links.prev_length, after.upto))) in
            rw put (rw e (let lead : LeadsTo slots owner Out2 p a = record {
              within = before.within;
              inside = λ position. others p (before_in slots p before) (before.inside position);
              least = past;
            } in lead)))
        | inr apart ↦
            (let kept : get_or (set prev a p) j 0 ≡ slice_index prev j = get_or-set_other prev a j p 0 apart in
            let lead : LeadsTo slots owner Out (slice_index prev j) j = links.back j inside (fewer j in_it) in
            let same : j ≢ i = λ e. in_it (subst Out2 (sym e) gone) in
            rw kept (let kept_lead : LeadsTo slots owner Out2 (slice_index prev j) j = record {
              within = lead.within;
              inside = λ position. others (slice_index prev j) (λ e. apart (one_nearest
                  (let leads : IsNearest owner Out (slice_index owner i) (i + 1) j =
                  rw (list_at-position owner i within, from_at-position owner i within) at (rw e at lead.least) in leads)
                  after)) (lead.inside position);
              least = less (list_at owner (slice_index prev j)) (from_at owner (slice_index prev j)) j same lead.least;
            } in kept_lead))
      ];
    }
      where
        p : ℕ
        p = slice_index prev i

        a : ℕ
        a = slice_index next i

        before : LeadsTo slots owner Out p i
        before = links.back i within live

        after : IsNearest owner Out (slice_index owner i) (i + 1) a
        after = rw (list_at-position owner i within, from_at-position owner i within) at
            (links.onward i (omega (arith, within, room)) (λ _. live))

        past : IsNearest owner Out2 (list_at owner p) (from_at owner p) a
        past = over (list_at owner p) (from_at owner p) a before.least (rw (before.least.owned within) at after)

    -- in again: what leads past it leads to it
    pub relinks : AreLinks slots owner Out2 next prev →
        IsNearest owner Out (slice_index owner i) (i + 1) (slice_index next i) → LeadsTo slots owner Out (slice_index prev i) i →
        AreLinks slots owner Out (set next (slice_index prev i) i) (set prev (slice_index next i) i)
    relinks links after before = record {
      next_length = rw length-set links.next_length;
      prev_length = rw length-set links.prev_length;
      onward = λ s inside on. elim (cases_eq s p) [
        | inl e ↦
            (let put : get_or (set next p i) s 0 ≡ i =
            subst (λ t. get_or (set next p i) t 0 ≡ i) (sym e)
            (get_or-set_same next p i 0 (omega (arith, links.next_length, before.within))) in
            rw put (rw e before.least))
        | inr apart ↦
            (let kept : get_or (set next p i) s 0 ≡ slice_index next s = get_or-set_other next p s i 0 apart in
            rw kept (elim (cases_eq s i) [
              | inl e ↦ rw (e, list_at-position owner i within, from_at-position owner i within) after
              | inr other ↦
                  (let on_after : s < length owner → Out2 s → ⊥ = λ h. others s other (on h) in
                  back_less (list_at owner s) (from_at owner s) (slice_index next s)
                  (λ behind below same. apart (one_slot
                  (let lead : LeadsTo slots owner Out s i = record {
                    within = inside;
                    inside = on;
                    least = between (list_at owner s) (from_at owner s) (slice_index next s) behind below same (links.onward s inside on_after);
                  } in lead)
                  before within))
                  (links.onward s inside on_after))
            ]))
      ];
      back = λ j inside in_it. elim (cases_eq j i) [
        | inl e ↦
            (let kept : get_or (set prev a i) j 0 ≡ p =
            subst (λ t. get_or (set prev a i) t 0 ≡ p) (sym e)
            (get_or-set_other prev a i i 0 (λ same. after_in a after (sym same))) in
            rw kept (rw e before))
        | inr other ↦
            (let lead : LeadsTo slots owner Out2 (slice_index prev j) j = links.back j inside (others j other in_it) in
            elim (cases_eq j a) [
              | inl e ↦
                  (let put : get_or (set prev a i) j 0 ≡ i =
                  subst (λ t. get_or (set prev a i) t 0 ≡ i) (sym e)
                  (get_or-set_same prev a i 0 (omega (arith, links.prev_length, after.upto))) in
                  rw put (rw e (let new_lead : LeadsTo slots owner Out i a = record {
                    within = omega (arith, within, room);
                    inside = λ _. live;
                    least = rw (list_at-position owner i within, from_at-position owner i within) after;
                  } in new_lead)))
              | inr apart ↦
                  (let kept : get_or (set prev a i) j 0 ≡ slice_index prev j = get_or-set_other prev a j i 0 apart in
                  let s : ℕ = slice_index prev j in
                  rw kept (let kept_lead : LeadsTo slots owner Out (slice_index prev j) j = record {
                    within = lead.within;
                    inside = λ position. fewer (slice_index prev j) (lead.inside position);
                    least = back_less (list_at owner (slice_index prev j)) (from_at owner (slice_index prev j)) j
                        (λ behind below same.
                        (let at_p : slice_index prev j ≡ p = one_slot
                        (let to_i : LeadsTo slots owner Out (slice_index prev j) i = record {
                          within = lead.within;
                          inside = λ position. fewer (slice_index prev j) (lead.inside position);
                          least = between (list_at owner (slice_index prev j)) (from_at owner (slice_index prev j)) j behind below same lead.least;
                        } in to_i) before within in
                        let from_p : IsNearest owner Out2 (list_at owner p) (from_at owner p) j = rw at_p at lead.least in
                        apart (one_nearest from_p past)))
                        lead.least;
                  } in kept_lead))
            ])
      ];
    }
      where
        p : ℕ
        p = slice_index prev i

        a : ℕ
        a = slice_index next i

        past : IsNearest owner Out2 (list_at owner p) (from_at owner p) a
        past = over (list_at owner p) (from_at owner p) a before.least (rw (before.least.owned within) at after)
