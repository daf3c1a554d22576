-- The stack of unlinked positions, and the links that they keep.
use Rattle.std.proofs.Common.{◌≡◌, ◌<◌, ◌≤◌, ◌+◌, ◌-◌, ◌⊎◌, inl, inr, ℕ, List, [], ◌∷◌, ◌++◌, length, get_or, set, take, eqb, refl, sym, ap, ◌∙◌, subst, arith}
use Rattle.std.specs.Prelude.{slice_index}
use Rattle.std.specs.List.{Contains}
use Rattle.std.proofs.lemmas.List.{length_push, get_or-set_other, get_or_append_left, get_or_push, take-append-le, take_at, get_or_default, length-take, get_or-take}
use Rattle.std.proofs.lemmas.List.Elements.{Contains-get_or, Contains-push, Contains-push_cases, Contains-append_left}
use Rattle.std.proofs.lemmas.Bool.{cases_eq, cases_lt, ne_eqb, eqb-true}
use Rattle.std.proofs.lemmas.Map.Keys.{IsDistinct-from_apart}
use Rattle.std.proofs.lemmas.Map.Steps.{length-le_from_distinct_below}
use Rattle.std.proofs.lemmas.Map.Views.{Contains-from_any}
use Rattle.link_lists.specs.Links.{IsNearest, LeadsTo, KeepsPlace, IsLinkage}
use Rattle.link_lists.proofs.Relinking.{list_at-position, from_at-position, before_least, unlinks, relinks}

-- numbers below n that differ are at most n
few_below : (n : ℕ) (xs : List ℕ) →
    ((j k : ℕ) → j < k → k < length xs → slice_index xs j ≡ slice_index xs k → ⊥) →
    ((k : ℕ) → k < length xs → slice_index xs k < n) → length xs ≤ n
few_below n xs apart below = length-le_from_distinct_below xs n
    (IsDistinct-from_apart eqb xs (λ j k d less inside. ne_eqb _ _ (λ e. apart j k less inside
    (sym (get_or_default xs j d 0 (omega arith)) ∙ e ∙ get_or_default xs k d 0 inside))))
    (λ q has.
    (let at : Contains xs q = Contains-from_any (λ x y e. eqb-true x y e) q xs has in
    subst (λ x. x < n) (get_or_default xs at.0 0 q at.1 ∙ at.2) (below at.0 at.1)))

-- what is written elsewhere leaves the links of a position
kept_place : (slots : ℕ) (owner : List ℕ) (Out : ℕ → Type 0) (next prev : List ℕ) (i p x a y : ℕ) →
    (i ≡ p → ⊥) → (i ≡ a → ⊥) → KeepsPlace slots owner Out next prev i →
    KeepsPlace slots owner Out (set next p x) (set prev a y) i
kept_place slots owner Out next prev i p x a y not_p not_a kept =
    let next_is : get_or (set next p x) i 0 ≡ slice_index next i = get_or-set_other next p i x 0 not_p in
    let prev_is : get_or (set prev a y) i 0 ≡ slice_index prev i = get_or-set_other prev a i y 0 not_a in
    record {
      within = kept.within;
      after = rw next_is kept.after;
      before = rw prev_is kept.before;
      inside = kept.inside;
    }

module _ (lists : ℕ) (owner next prev : List ℕ) (capacity : ℕ) where
  pub unlinked_once : (unlinked : List ℕ) → IsLinkage lists owner next prev unlinked capacity →
      (j k : ℕ) → j < k → k < length unlinked → slice_index unlinked j ≡ slice_index unlinked k → ⊥
  unlinked_once unlinked linkage j k less inside same =
      let shorter : j < length (take k unlinked) = omega (arith, length-take k unlinked) in
      let read : get_or (take k unlinked) j 0 ≡ slice_index unlinked k = get_or-take k unlinked j 0 less ∙ same in
      (linkage.kept k inside).inside (subst (Contains (take k unlinked)) read (Contains-get_or (take k unlinked) j 0 shorter))

  -- there is room for one more
  pub room_to_unlink : (unlinked : List ℕ) (i : ℕ) → IsLinkage lists owner next prev unlinked capacity →
      i < length owner → (Contains unlinked i → ⊥) → length unlinked < capacity
  room_to_unlink unlinked i linkage within live =
      let after : ℕ → ℕ = λ k. slice_index (unlinked ++ i ∷ []) k in
      let old : (k : ℕ) → k < length unlinked → slice_index (unlinked ++ i ∷ []) k ≡ slice_index unlinked k =
      λ k inside. get_or_append_left unlinked (i ∷ []) 0 k inside in
      let last : (k : ℕ) → k ≡ length unlinked → slice_index (unlinked ++ i ∷ []) k ≡ i = λ k e. get_or_push unlinked i 0 k (sym e) in
      let few : length (unlinked ++ i ∷ []) ≤ length owner = few_below (length owner) (unlinked ++ i ∷ [])
      (λ j k less inside same. elim (cases_eq k (length unlinked)) [
        | inl e ↦
            (let before : j < length unlinked = omega arith in
            let at_j : slice_index unlinked j ≡ i = sym (old j before) ∙ same ∙ last k e in
            live (subst (Contains unlinked) at_j (Contains-get_or unlinked j 0 before)))
        | inr apart ↦
            (let before : k < length unlinked = omega (arith, length_push unlinked i) in
            unlinked_once unlinked linkage j k less before (sym (old j (omega arith)) ∙ same ∙ old k before))
      ])
      (λ k inside. elim (cases_eq k (length unlinked)) [
        | inl e ↦ rw (last k e) within
        | inr apart ↦ (let before : k < length unlinked = omega (arith, length_push unlinked i) in rw (old k before) ((linkage.kept k before).within))
      ]) in
      omega (arith, length_push unlinked i, few, linkage.room)

  pub unlinked_more : (unlinked : List ℕ) (i : ℕ) → IsLinkage lists owner next prev unlinked capacity →
      i < length owner → (Contains unlinked i → ⊥) →
      IsLinkage lists owner (set next (slice_index prev i) (slice_index next i)) (set prev (slice_index next i) (slice_index prev i)) (unlinked ++ i ∷ []) capacity
  unlinked_more unlinked i linkage within live =
      let slots : ℕ = length owner + lists in
      let p : ℕ = slice_index prev i in
      let a : ℕ = slice_index next i in
      let before : LeadsTo slots owner (Contains unlinked) p i = linkage.links.back i within live in
      let after : IsNearest owner (Contains unlinked) (slice_index owner i) (i + 1) a =
      rw (list_at-position owner i within, from_at-position owner i within) at
      (linkage.links.onward i (omega (arith, within)) (λ _. live)) in
      record {
        few = linkage.few;
        few_lists = linkage.few_lists;
        owners = linkage.owners;
        links = unlinks owner (Contains unlinked) (Contains (unlinked ++ i ∷ [])) i within live (Contains-push unlinked i)
            (λ k has. Contains-append_left unlinked (i ∷ []) k has)
            (λ k has. elim (Contains-push_cases unlinked i k has) [ inl old ↦ inl old | inr e ↦ inr (sym e) ])
            slots next prev (omega arith) linkage.links;
        kept = λ k inside. elim (cases_lt k (length unlinked)) [
          | inl earlier ↦
              (let read : slice_index (unlinked ++ i ∷ []) k ≡ slice_index unlinked k = get_or_append_left unlinked (i ∷ []) 0 k earlier in
              let out : Contains unlinked (slice_index unlinked k) = Contains-get_or unlinked k 0 earlier in
              let old : KeepsPlace slots owner (Contains (take k unlinked)) next prev (slice_index unlinked k) = linkage.kept k earlier in
              rw (take-append-le k unlinked (i ∷ []) (omega arith), read)
              (kept_place slots owner (Contains (take k unlinked)) next prev (slice_index unlinked k) p a a p
              (λ e. before.inside (rw e at old.within) (rw e at out))
              (λ e. after.inside (rw e at old.within) (rw e at out)) old))
          | inr upto ↦
              (let is_last : k ≡ length unlinked = omega (arith, length_push unlinked i) in
              rw (get_or_push unlinked i 0 k (sym is_last), take_at unlinked (i ∷ []) k (sym is_last))
              (kept_place slots owner (Contains unlinked) next prev i p a a p
              (λ e. (let position : p < length owner = omega arith in omega (arith, before_least position before.least))) (λ e. omega (arith, after.behind)) (record { within = within; after = after; before = before; inside = live })))
        ];
        room = linkage.room;
      }

  -- an unlinked position keeps its place
  place_of : (before : List ℕ) (i : ℕ) → IsLinkage lists owner next prev (before ++ i ∷ []) capacity →
      KeepsPlace (length owner + lists) owner (Contains before) next prev i
  place_of before i linkage =
      rw (get_or_push before i 0 (length before) refl, take_at before (i ∷ []) (length before) refl) at
      (linkage.kept (length before) (omega (arith, length_push before i)))

  pub is_position : (before : List ℕ) (i : ℕ) → IsLinkage lists owner next prev (before ++ i ∷ []) capacity → i < length owner
  is_position before i linkage = (place_of before i linkage).within

  pub unlinked_less : (before : List ℕ) (i : ℕ) → IsLinkage lists owner next prev (before ++ i ∷ []) capacity →
      IsLinkage lists owner (set next (slice_index prev i) i) (set prev (slice_index next i) i) before capacity
  unlinked_less before i linkage =
      let slots : ℕ = length owner + lists in
      let place : KeepsPlace slots owner (Contains before) next prev i = place_of before i linkage in
      record {
        few = linkage.few;
        few_lists = linkage.few_lists;
        owners = linkage.owners;
        links = relinks owner (Contains before) (Contains (before ++ i ∷ [])) i place.within place.inside (Contains-push before i)
            (λ k has. Contains-append_left before (i ∷ []) k has)
            (λ k has. elim (Contains-push_cases before i k has) [ inl old ↦ inl old | inr e ↦ inr (sym e) ])
            slots next prev (omega arith) linkage.links place.after place.before;
        kept = λ k inside.
            (let out : Contains before (slice_index before k) = Contains-get_or before k 0 inside in
            let old : KeepsPlace slots owner (Contains (take k before)) next prev (slice_index before k) =
            rw (take-append-le k before (i ∷ []) (omega arith), get_or_append_left before (i ∷ []) 0 k inside) at
            (linkage.kept k (omega (arith, length_push before i))) in
            kept_place slots owner (Contains (take k before)) next prev (slice_index before k) (slice_index prev i) i (slice_index next i) i
            (λ e. place.before.inside (rw e at old.within) (rw e at out))
            (λ e. place.after.inside (rw e at old.within) (rw e at out)) old);
        room = linkage.room;
      }

  -- an earlier one is out where a later one was unlinked
  earlier_out : (unlinked : List ℕ) (j k : ℕ) → k < j → j < length unlinked → Contains (take j unlinked) (slice_index unlinked k)
  earlier_out unlinked j k less inside =
      let shorter : k < length (take j unlinked) = omega (arith, length-take j unlinked) in
      subst (Contains (take j unlinked)) (get_or-take j unlinked k 0 less) (Contains-get_or (take j unlinked) k 0 shorter)

  -- nothing leads to an unlinked position from where it was
  pub not_led_to : (unlinked : List ℕ) → IsLinkage lists owner next prev unlinked capacity → (k s i : ℕ) → k < length unlinked →
      i ≡ slice_index unlinked k → s ≡ slice_index prev i → slice_index next s ≡ i → ⊥
  not_led_to unlinked linkage k s i inside i_is s_is leads =
      let kept : KeepsPlace (length owner + lists) owner (Contains (take k unlinked)) next prev i = rw i_is (linkage.kept k inside) in
      let before : LeadsTo (length owner + lists) owner (Contains (take k unlinked)) s i = rw s_is kept.before in
      let out : Contains unlinked i = rw i_is (Contains-get_or unlinked k 0 inside) in
      let end : i < length owner = kept.within in
      let live : ((s < length owner) → Contains unlinked s → ⊥) → ⊥ = λ there.
      (linkage.links.onward s before.within there).inside (omega (arith, leads, end)) (rw leads out) in
      elim (cases_lt s (length owner)) [
        | inr head ↦ live (λ position. absurd (omega arith))
        | inl position ↦ live (λ _ (j, j_in, at). gone j (get_or_default unlinked j 0 s j_in ∙ at) j_in before position (cases_lt j k) (cases_eq j k))
      ]
    where
      gone : (j : ℕ) → slice_index unlinked j ≡ s → j < length unlinked → LeadsTo (length owner + lists) owner (Contains (take k unlinked)) s i →
          s < length owner → (j < k) ⊎ (k ≤ j) → (j ≡ k) ⊎ (j ≡ k → ⊥) → ⊥
      gone j is j_in before position (inl less) _ = before.inside position (subst (Contains (take k unlinked)) is (earlier_out unlinked k j less inside))
      gone j is j_in before position (inr more) (inl same) =
          let itself : s ≡ i = sym is ∙ ap (λ n. slice_index unlinked n) same ∙ sym i_is in
          omega (arith, before_least position before.least)
      gone j is j_in before position (inr more) (inr apart) =
          let later : k < j = omega arith in
          let kept = linkage.kept j j_in in
          let next_is : slice_index next (slice_index unlinked j) ≡ i = ap (λ n. slice_index next n) is ∙ leads in
          kept.after.inside (omega (arith, next_is, (linkage.kept k inside).within, i_is))
          (rw next_is (rw i_is (earlier_out unlinked j k later j_in)))

-- what is left of a stack without its last
pub popped : (unlinked rest before : List ℕ) (i : ℕ) → unlinked ≡ before ++ i ∷ [] → rest ≡ take (length unlinked - 1) unlinked → rest ≡ before
popped unlinked rest before i is less =
    let n : length unlinked ≡ length before + 1 = ap length is ∙ length_push before i in
    let front : take (length unlinked - 1) unlinked ≡ before =
    rw is (take_at before (i ∷ []) (length (before ++ i ∷ []) - 1) (omega (arith, length_push before i))) in
    less ∙ front
