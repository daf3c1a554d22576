-- Putting an item into a chain and taking one out, over any buckets of slots.
use Rattle.std.proofs.Common.{◌≡◌, ◌<◌, ◌≤◌, inl, inr, ℕ, Bool, true, false, ◌&&◌, ◌||◌, List, Option, Some, None, get_or, set, eqb, ltb, refl, sym, ap, ◌∙◌, subst, arith}
use Rattle.std.specs.Prelude.{slice_index}
use Rattle.std.proofs.lemmas.List.{length-set, get_or-set_same, get_or-set_other}
use Rattle.std.proofs.lemmas.Bool.{cases_eq, cases_lt, eqb-true, eq-eqb, ltb-true, lt-ltb, and_parts, and_from, or_cases, or_left, or_right}
use Rattle.link_lists.specs.Buckets.{IsClosed, LeadsOn, LeadsBack, AreChains}

-- whether a bucket is this one
abbrev is_bucket : ℕ → Option ℕ → Bool
is_bucket b None = false
is_bucket b (Some c) = eqb c b

is_bucket-some : (b : ℕ) (o : Option ℕ) → is_bucket b o ≡ true → o ≡ Some b
is_bucket-some b None h = absurd (let bad : ⊥ = cc h in bad)
is_bucket-some b (Some c) h = ap (λ x. Some x) (eqb-true c b h)

is_bucket-at : (b : ℕ) (o : Option ℕ) → o ≡ Some b → is_bucket b o ≡ true
is_bucket-at b o e = rw e (eq-eqb b b refl)

same_bucket : {b c : ℕ} {o : Option ℕ} → o ≡ Some b → o ≡ Some c → b ≡ c
same_bucket p q = cc

not_some : {b : ℕ} {o : Option ℕ} → o ≡ None → o ≡ Some b → ⊥
not_some p q = cc

module _ (items slots : ℕ) (room : items ≤ slots) (next prev : List ℕ) (at : ℕ → Option ℕ) (chains : AreChains items slots at next prev) where
  -- a bucket whose chain is empty has no item
  pub none_in : (b head : ℕ) → ((s : ℕ) → items ≤ s → s < slots → at s ≡ Some b → s ≡ head) → items ≤ slice_index next head →
      (i : ℕ) → i < items → at i ≡ Some b → ⊥
  none_in b head only empty i within here =
      chains.grounded (λ k. ltb k items && is_bucket b (at k)) closed i (and_from _ _ (lt-ltb i items within) (is_bucket-at b (at i) here))
    where
      parts : (k : ℕ) → (ltb k items && is_bucket b (at k)) ≡ true → (k < items) × (at k ≡ Some b)
      parts k h = let both = and_parts (ltb k items) (is_bucket b (at k)) h in
          (ltb-true k items both.0, is_bucket-some b (at k) both.1)

      inside : (k : ℕ) → k < items → at k ≡ Some b → slice_index prev k < items
      inside k h e = elim (cases_lt (slice_index prev k) items) [
        | inl less ↦ less
        | inr head_slot ↦
            (let is : slice_index prev k ≡ head = only (slice_index prev k) head_slot (chains.back k b h e).within (chains.back k b h e).same in
            let leads : slice_index next head ≡ k = subst (λ s. slice_index next s ≡ k) is ((chains.back k b h e).onward) in
            absurd (omega arith))
      ]

      closed : IsClosed items at prev (λ k. ltb k items && is_bucket b (at k))
      closed = record {
        within = λ k h. (parts k h).0;
        queued = λ k h none. not_some none (parts k h).1;
        inside = λ k h. inside k (parts k h).0 (parts k h).1;
        back = λ k h. and_from _ _ (lt-ltb (slice_index prev k) items (inside k (parts k h).0 (parts k h).1))
            (is_bucket-at b (at (slice_index prev k)) ((chains.back k b (parts k h).0 (parts k h).1).same));
      }

  -- no item comes before itself
  apart_before : (i b : ℕ) → i < items → at i ≡ Some b → slice_index prev i ≡ i → ⊥
  apart_before i b within here e = chains.grounded (λ k. eqb k i) (record {
    within = λ k h. (let is : k ≡ i = eqb-true k i h in omega arith);
    queued = λ k h none. not_some (subst (λ x. at x ≡ None) (eqb-true k i h) none) here;
    inside = λ k h. (let is : k ≡ i = eqb-true k i h in rw (is, e) within);
    back = λ k h. (let is : k ≡ i = eqb-true k i h in rw (is, e) (eq-eqb i i refl));
  }) i (eq-eqb i i refl)

  module _ (at2 : ℕ → Option ℕ) (i b : ℕ) (within : i < items) (others : (k : ℕ) → (k ≡ i → ⊥) → at2 k ≡ at k) where
    kept : (k c : ℕ) → (k ≡ i → ⊥) → at k ≡ Some c → at2 k ≡ Some c
    kept k c apart e = others k apart ∙ e

    before : (k c : ℕ) → (k ≡ i → ⊥) → at2 k ≡ Some c → at k ≡ Some c
    before k c apart e = sym (others k apart) ∙ e

    module _ (head : ℕ) (free : at i ≡ None) (here : at2 i ≡ Some b) (past : items ≤ head) (inside : head < slots) (of_bucket : at head ≡ Some b) where
      first_upto : slice_index next head ≤ items
      first_upto = (chains.onward head b inside of_bucket).upto

      first_apart : slice_index next head ≡ i → ⊥
      first_apart e = not_some free (subst (λ k. at k ≡ Some b) e ((chains.onward head b inside of_bucket).same (omega arith)))

      next_at_head : get_or (set (set next i (slice_index next head)) head i) head 0 ≡ i
      next_at_head = get_or-set_same (set next i (slice_index next head)) head i 0 (simp length-set (omega (arith, chains.next_length)))

      next_at_item : get_or (set (set next i (slice_index next head)) head i) i 0 ≡ slice_index next head
      next_at_item =
          get_or-set_other (set next i (slice_index next head)) head i i 0 (λ e. omega arith)
          ∙ get_or-set_same next i (slice_index next head) 0 (omega (arith, chains.next_length))

      next_at : (s : ℕ) → (s ≡ head → ⊥) → (s ≡ i → ⊥) → get_or (set (set next i (slice_index next head)) head i) s 0 ≡ slice_index next s
      next_at s not_head not_item =
          get_or-set_other (set next i (slice_index next head)) head s i 0 not_head
          ∙ get_or-set_other next i s (slice_index next head) 0 not_item

      prev_at_first : get_or (set (set prev i head) (slice_index next head) i) (slice_index next head) 0 ≡ i
      prev_at_first = get_or-set_same (set prev i head) (slice_index next head) i 0 (simp length-set (omega (arith, first_upto, chains.prev_length)))

      prev_at_item : get_or (set (set prev i head) (slice_index next head) i) i 0 ≡ head
      prev_at_item =
          get_or-set_other (set prev i head) (slice_index next head) i i 0 (λ e. first_apart (sym e))
          ∙ get_or-set_same prev i head 0 (omega (arith, chains.prev_length))

      prev_at : (k : ℕ) → (k ≡ slice_index next head → ⊥) → (k ≡ i → ⊥) →
          get_or (set (set prev i head) (slice_index next head) i) k 0 ≡ slice_index prev k
      prev_at k not_first not_item =
          get_or-set_other (set prev i head) (slice_index next head) k i 0 not_first
          ∙ get_or-set_other prev i k head 0 not_item

      chained_onward : (s c : ℕ) → s < slots → at2 s ≡ Some c →
          LeadsOn items at2 (set (set prev i head) (slice_index next head) i) s c (get_or (set (set next i (slice_index next head)) head i) s 0)
      chained_onward s c within_slots e = elim (cases_eq s head) [
        | inl is ↦
            (let same : b ≡ c = same_bucket (kept head b (λ e. omega arith) of_bucket) (subst (λ t. at2 t ≡ Some c) is e) in
            rw (is, next_at_head, ← same) (record {
              upto = omega arith;
              same = λ _. here;
              back = λ _. prev_at_item;
            }))
        | inr not_head ↦ elim (cases_eq s i) [
          | inl is ↦
              (let same : b ≡ c = same_bucket here (subst (λ t. at2 t ≡ Some c) is e) in
              rw (is, next_at_item, ← same) (record {
                upto = first_upto;
                same = λ h. kept (slice_index next head) b first_apart ((chains.onward head b inside of_bucket).same h);
                back = λ _. prev_at_first;
              }))
          | inr not_item ↦
              (let old : LeadsOn items at prev s c (slice_index next s) = chains.onward s c within_slots (before s c not_item e) in
              let new_apart : slice_index next s < items → slice_index next s ≡ i → ⊥ = λ h e. not_some free (subst (λ k. at k ≡ Some c) e (old.same h)) in
              rw (next_at s not_head not_item) (record {
                upto = old.upto;
                same = λ h. kept (slice_index next s) c (new_apart h) (old.same h);
                back = λ h.
                    (let not_first : slice_index next s ≡ slice_index next head → ⊥ = λ e. not_head
                    (sym (old.back h) ∙ rw e ((chains.onward head b inside of_bucket).back (rw (← e) h))) in
                    prev_at (slice_index next s) not_first (new_apart h) ∙ old.back h);
              }))
        ]
      ]

      chained_back : (k c : ℕ) → k < items → at2 k ≡ Some c →
          LeadsBack slots at2 (set (set next i (slice_index next head)) head i) k c (get_or (set (set prev i head) (slice_index next head) i) k 0)
      chained_back k c inside_items e = elim (cases_eq k i) [
        | inl is ↦
            (let same : b ≡ c = same_bucket here (subst (λ t. at2 t ≡ Some c) is e) in
            rw (is, prev_at_item, ← same) (record {
              within = inside;
              same = kept head b (λ e. omega arith) of_bucket;
              onward = next_at_head;
            }))
        | inr not_item ↦ elim (cases_eq k (slice_index next head)) [
          | inl is ↦
              (let same : b ≡ c = same_bucket ((chains.onward head b inside of_bucket).same (rw (← is) inside_items)) (subst (λ t. at t ≡ Some c) is (before k c not_item e)) in
              rw (is, prev_at_first, ← same) (record {
                within = omega (arith, room, within);
                same = here;
                onward = next_at_item;
              }))
          | inr not_first ↦
              (let old : LeadsBack slots at next k c (slice_index prev k) = chains.back k c inside_items (before k c not_item e) in
              let prev_apart : slice_index prev k ≡ i → ⊥ = λ e. not_some free (subst (λ t. at t ≡ Some c) e old.same) in
              let prev_not_head : slice_index prev k ≡ head → ⊥ = λ e. not_first (sym (subst (λ t. slice_index next t ≡ k) e old.onward)) in
              rw (prev_at k not_first not_item) (record {
                within = old.within;
                same = kept (slice_index prev k) c prev_apart old.same;
                onward = next_at (slice_index prev k) prev_not_head prev_apart ∙ old.onward;
              }))
        ]
      ]

      closed_before : (p : ℕ → Bool) → IsClosed items at2 (set (set prev i head) (slice_index next head) i) p → IsClosed items at prev p
      closed_before p closed =
          let without : (k : ℕ) → p k ≡ true → k ≡ i → ⊥ = λ k h e.
          (let at_head : get_or (set (set prev i head) (slice_index next head) i) k 0 ≡ head = rw e prev_at_item in
          omega (arith, closed.inside k h, at_head)) in
          let not_first : (k : ℕ) → p k ≡ true → k ≡ slice_index next head → ⊥ = λ k h e.
          (let at_item : get_or (set (set prev i head) (slice_index next head) i) k 0 ≡ i = rw e prev_at_first in
          without (get_or (set (set prev i head) (slice_index next head) i) k 0) (closed.back k h) at_item) in
          let read : (k : ℕ) → p k ≡ true → get_or (set (set prev i head) (slice_index next head) i) k 0 ≡ slice_index prev k = λ k h.
          prev_at k (not_first k h) (without k h) in
          record {
            within = closed.within;
            queued = λ k h none. closed.queued k h (others k (without k h) ∙ none);
            inside = λ k h. rw (← read k h) (closed.inside k h);
            back = λ k h. rw (← read k h) (closed.back k h);
          }

      -- an item goes to the front of a chain
      pub chained : AreChains items slots at2 (set (set next i (slice_index next head)) head i) (set (set prev i head) (slice_index next head) i)
      chained = record {
        next_length = simp length-set chains.next_length;
        prev_length = simp length-set chains.prev_length;
        onward = chained_onward;
        back = chained_back;
        grounded = λ p closed k has. chains.grounded p (closed_before p closed) k has;
      }

    module _ (here : at i ≡ Some b) (free : at2 i ≡ None) where
      lead : LeadsBack slots at next i b (slice_index prev i)
      lead = chains.back i b within here

      follow : LeadsOn items at prev i b (slice_index next i)
      follow = chains.onward i b (omega (arith, within, room)) here

      before_apart : slice_index prev i ≡ i → ⊥
      before_apart = apart_before i b within here

      after_apart : slice_index next i ≡ i → ⊥
      after_apart e = before_apart (subst (λ k. slice_index prev k ≡ i) e (follow.back (omega arith)))

      next_at_before : get_or (set next (slice_index prev i) (slice_index next i)) (slice_index prev i) 0 ≡ slice_index next i
      next_at_before = get_or-set_same next (slice_index prev i) (slice_index next i) 0 (omega (arith, chains.next_length, lead.within))

      prev_at_after : slice_index next i ≤ items → get_or (set prev (slice_index next i) (slice_index prev i)) (slice_index next i) 0 ≡ slice_index prev i
      prev_at_after h = get_or-set_same prev (slice_index next i) (slice_index prev i) 0 (omega (arith, chains.prev_length))

      unchained_onward : (s c : ℕ) → s < slots → at2 s ≡ Some c →
          LeadsOn items at2 (set prev (slice_index next i) (slice_index prev i)) s c (get_or (set next (slice_index prev i) (slice_index next i)) s 0)
      unchained_onward s c within_slots e =
          let not_item : s ≡ i → ⊥ = λ is. not_some free (subst (λ t. at2 t ≡ Some c) is e) in
          elim (cases_eq s (slice_index prev i)) [
            | inl is ↦
                (let same : b ≡ c = same_bucket lead.same (subst (λ t. at t ≡ Some c) is (before s c not_item e)) in
                rw (is, next_at_before, ← same) (record {
                  upto = follow.upto;
                  same = λ h. kept (slice_index next i) b after_apart (follow.same h);
                  back = λ _. prev_at_after follow.upto;
                }))
            | inr not_before ↦
                (let old : LeadsOn items at prev s c (slice_index next s) = chains.onward s c within_slots (before s c not_item e) in
                let next_apart : slice_index next s ≡ i → ⊥ = λ e. not_before (sym (subst (λ k. slice_index prev k ≡ s) e (old.back (omega arith)))) in
                rw (get_or-set_other next (slice_index prev i) s (slice_index next i) 0 not_before) (record {
                  upto = old.upto;
                  same = λ h. kept (slice_index next s) c next_apart (old.same h);
                  back = λ h.
                      (let not_after : slice_index next s ≡ slice_index next i → ⊥ = λ e. not_item
                      (sym (old.back h) ∙ rw e (follow.back (rw (← e) h))) in
                      get_or-set_other prev (slice_index next i) (slice_index next s) (slice_index prev i) 0 not_after ∙ old.back h);
                }))
          ]

      unchained_back : (k c : ℕ) → k < items → at2 k ≡ Some c →
          LeadsBack slots at2 (set next (slice_index prev i) (slice_index next i)) k c (get_or (set prev (slice_index next i) (slice_index prev i)) k 0)
      unchained_back k c inside_items e =
          let not_item : k ≡ i → ⊥ = λ is. not_some free (subst (λ t. at2 t ≡ Some c) is e) in
          elim (cases_eq k (slice_index next i)) [
            | inl is ↦
                (let same : b ≡ c = same_bucket (follow.same (rw (← is) inside_items)) (subst (λ t. at t ≡ Some c) is (before k c not_item e)) in
                rw (is, prev_at_after follow.upto, ← same) (record {
                  within = lead.within;
                  same = kept (slice_index prev i) b before_apart lead.same;
                  onward = next_at_before;
                }))
            | inr not_after ↦
                (let old : LeadsBack slots at next k c (slice_index prev k) = chains.back k c inside_items (before k c not_item e) in
                let prev_apart : slice_index prev k ≡ i → ⊥ = λ e. not_after (sym (subst (λ t. slice_index next t ≡ k) e old.onward)) in
                let not_before : slice_index prev k ≡ slice_index prev i → ⊥ = λ e. not_item
                (sym old.onward ∙ rw e lead.onward) in
                rw (get_or-set_other prev (slice_index next i) k (slice_index prev i) 0 not_after) (record {
                  within = old.within;
                  same = kept (slice_index prev k) c prev_apart old.same;
                  onward = get_or-set_other next (slice_index prev i) (slice_index prev k) (slice_index next i) 0 not_before ∙ old.onward;
                }))
          ]

      -- with what followed the item, a closed set had the item
      closed_with : (p : ℕ → Bool) → IsClosed items at2 (set prev (slice_index next i) (slice_index prev i)) p →
          IsClosed items at prev (λ k. p k || (eqb k i && p (slice_index next i)))
      closed_with p closed =
          let after : ℕ = slice_index next i in
          let without : (k : ℕ) → p k ≡ true → k ≡ i → ⊥ = λ k h e. closed.queued k h (rw e free) in
          let item : (k : ℕ) → (eqb k i && p after) ≡ true → (k ≡ i) × (p after ≡ true) = λ k h.
          (let both = and_parts (eqb k i) (p after) h in (eqb-true k i both.0, both.1)) in
          let before_item : p after ≡ true → (slice_index prev i < items) × (p (slice_index prev i) ≡ true) = λ h.
          (let read : get_or (set prev after (slice_index prev i)) after 0 ≡ slice_index prev i = prev_at_after follow.upto in
          (rw (← read) (closed.inside after h), rw (← read) (closed.back after h))) in
          let other : (k : ℕ) → (k ≡ after → ⊥) → get_or (set prev after (slice_index prev i)) k 0 ≡ slice_index prev k = λ k apart.
          get_or-set_other prev after k (slice_index prev i) 0 apart in
          record {
            within = λ k h. elim (or_cases (p k) (eqb k i && p after) h) [
              | inl has ↦ closed.within k has
              | inr is ↦ (let e : k ≡ i = (item k is).0 in omega arith)
            ];
            queued = λ k h none. elim (or_cases (p k) (eqb k i && p after) h) [
              | inl has ↦ closed.queued k has (others k (without k has) ∙ none)
              | inr is ↦ not_some (subst (λ t. at t ≡ None) (item k is).0 none) here
            ];
            inside = λ k h. elim (or_cases (p k) (eqb k i && p after) h) [
              | inl has ↦ elim (cases_eq k after) [
                | inl e ↦ (let back : slice_index prev k ≡ i = rw e (follow.back (rw (← e) (closed.within k has))) in omega arith)
                | inr apart ↦ rw (← other k apart) (closed.inside k has)
              ]
              | inr is ↦ rw ((item k is).0) ((before_item (item k is).1).0)
            ];
            back = λ k h. elim (or_cases (p k) (eqb k i && p after) h) [
              | inl has ↦ elim (cases_eq k after) [
                | inl e ↦
                    (let back : slice_index prev k ≡ i = rw e (follow.back (rw (← e) (closed.within k has))) in
                    or_right (p (slice_index prev k)) (eqb (slice_index prev k) i && p after) (and_from _ _ (eq-eqb (slice_index prev k) i back) (rw (← e) has)))
                | inr apart ↦ or_left (p (slice_index prev k)) (eqb (slice_index prev k) i && p after) (rw (← other k apart) (closed.back k has))
              ]
              | inr is ↦ or_left (p (slice_index prev k)) (eqb (slice_index prev k) i && p after) (rw ((item k is).0) ((before_item (item k is).1).1))
            ];
          }

      -- an item is taken out of its chain
      pub unchained : AreChains items slots at2 (set next (slice_index prev i) (slice_index next i)) (set prev (slice_index next i) (slice_index prev i))
      unchained = record {
        next_length = rw length-set chains.next_length;
        prev_length = rw length-set chains.prev_length;
        onward = unchained_onward;
        back = unchained_back;
        grounded = λ p closed k has. chains.grounded (λ j. p j || (eqb j i && p (slice_index next i))) (closed_with p closed) k (or_left _ _ has);
      }
