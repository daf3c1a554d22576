-- The set of the buckets that hold an item: what a push and a pop leave, and how the least cost is found by it.
use Rattle.std.proofs.Common.{◌≡◌, ◌≢◌, ◌<◌, ◌≤◌, ◌+◌, ◌-◌, ◌*◌, ◌/◌, ◌%◌, ◌↔◌, inl, inr, ℕ, false, List, [], ◌++◌, Option, Some, None, length, get_or, set, take, drop, replicate, append-nil, refl, sym, ap, ◌∙◌, subst, arith}
use Rattle.std.specs.Prelude.{slice_index, slice_index_or, is_some, MatchOption}
use Rattle.std.specs.Int.{bit_at}
use Rattle.std.proofs.lemmas.Nat.Bits.{bit_at-zero}
use Rattle.std.specs.List.{sum_by}
use Rattle.std.proofs.lemmas.Bool.{cases_eq, cases_lt}
use Rattle.std.proofs.lemmas.List.{length-set, get_or-set_same, get_or-set_other, same_lists, get_or_past, get_or_default, length-replicate, get_or-replicate, take_all, drop_all}
use Rattle.std.proofs.lemmas.List.Sums.{sum_by-set, sum_by-le}
use Rattle.std.proofs.lemmas.Nat.{mod_below}
use Rattle.std.proofs.Math.Nat.{mod-add-mod, add-mod_right, mod-eq_of_lt}
use Rattle.link_lists.specs.Bits.{IsIn, IsNextAround, HasNoneIn}
use Rattle.link_lists.specs.Queued.{IsLeast, IsEmpty}
use Rattle.link_lists.specs.Buckets.{bucket_at, IsBucketed, AreFilled, weight}
use Rattle.link_lists.proofs.Bucketing.{bucket_at-head, bucket_at-queued, bucket_at-free, found}
use Rattle.link_lists.proofs.Chaining.{none_in}

-- a slice of a whole `Vec`, written back
pub whole : {X : Type 0} (n : ℕ) (xs ys : List X) → length xs ≡ n → length ys ≡ n → take n (xs ++ drop (length xs) ys) ≡ xs
whole n xs ys size same =
    let none : drop (length xs) ys ≡ [] = drop_all (length xs) ys (omega arith) in
    rw (none, append-nil xs) (take_all n xs (omega arith))

-- the set after one number was put in or taken out
pub record Changes (k : ℕ) (old new : List ℕ) : Type 0 where
  pub longs : length new ≡ length old
  pub others : (j : ℕ) → j ≢ k → (IsIn new j ↔ IsIn old j)

module _ (span items : ℕ) (next words : List ℕ) (filled : AreFilled span items next words) where
  pub filled_more : (words' : List ℕ) (i bucket head after : ℕ) → Changes bucket words words' → IsIn words' bucket → i < items →
      bucket ≤ span → head ≡ items + bucket → head < length next → AreFilled span items (set (set next i after) head i) words'
  filled_more words' i bucket head after changes has within inside is head_in =
      let here : (b : ℕ) → b ≡ bucket → slice_index (set (set next i after) head i) (items + b) ≡ i = λ b e.
      (let at : items + b ≡ head = omega arith in rw at (get_or-set_same (set next i after) head i 0 (rw length-set head_in))) in
      let there : (b : ℕ) → b ≢ bucket → slice_index (set (set next i after) head i) (items + b) ≡ slice_index next (items + b) = λ b ne.
      get_or-set_other (set next i after) head (items + b) i 0 (λ e. ne (omega arith)) ∙ get_or-set_other next i (items + b) after 0 (λ e. omega arith) in
      record {
        words_length = changes.longs ∙ filled.words_length;
        only = λ b member. elim (cases_eq b bucket) [
          | inl e ↦ (omega arith, omega (arith, here b e))
          | inr ne ↦ (let old = filled.only b ((changes.others b ne).0 member) in (old.0, omega (arith, there b ne, old.1)))
        ];
        all = λ b upto lower. elim (cases_eq b bucket) [
          | inl e ↦ subst (IsIn words') (sym e) has
          | inr ne ↦ (changes.others b ne).1 (filled.all b upto (omega (arith, there b ne)))
        ];
      }

  -- an item is taken out behind another, or in front of one
  pub filled_still : (i before after : ℕ) → i < items → before < length next → length next ≡ items + span + 1 → slice_index next before ≡ i →
      (items ≤ before → after < items) → AreFilled span items (set next before after) words
  filled_still i before after within before_in size leads onward =
      let there : (b : ℕ) → items + b ≢ before → slice_index (set next before after) (items + b) ≡ slice_index next (items + b) = λ b ne.
      get_or-set_other next before (items + b) after 0 ne in
      let here : (b : ℕ) → items + b ≡ before → slice_index (set next before after) (items + b) ≡ after = λ b e.
      rw e (get_or-set_same next before after 0 before_in) in
      let was : (b : ℕ) → items + b ≡ before → slice_index next (items + b) ≡ i = λ b e. rw e leads in
      record {
        words_length = filled.words_length;
        only = λ b member. (let old = filled.only b member in elim (cases_eq (items + b) before) [
          | inl e ↦ (old.0, omega (arith, here b e, onward (omega arith)))
          | inr ne ↦ (old.0, omega (arith, there b ne, old.1))
        ]);
        all = λ b upto lower. elim (cases_eq (items + b) before) [
          | inl e ↦ filled.all b upto (omega (arith, was b e))
          | inr ne ↦ filled.all b upto (omega (arith, there b ne))
        ];
      }

  -- a bucket's only item is taken out
  pub filled_less : (words' : List ℕ) (bucket before after : ℕ) → Changes bucket words words' → (IsIn words' bucket → ⊥) → before ≡ items + bucket →
      before < length next → items ≤ after → AreFilled span items (set next before after) words'
  filled_less words' bucket before after changes gone is before_in last =
      let there : (b : ℕ) → b ≢ bucket → slice_index (set next before after) (items + b) ≡ slice_index next (items + b) = λ b ne.
      get_or-set_other next before (items + b) after 0 (λ e. ne (omega arith)) in
      let here : (b : ℕ) → b ≡ bucket → slice_index (set next before after) (items + b) ≡ after = λ b e.
      (let at : items + b ≡ before = omega arith in rw at (get_or-set_same next before after 0 before_in)) in
      record {
        words_length = changes.longs ∙ filled.words_length;
        only = λ b member. elim (cases_eq b bucket) [
          | inl e ↦ absurd (gone (subst (IsIn words') e member))
          | inr ne ↦ (let old = filled.only b ((changes.others b ne).0 member) in (old.0, omega (arith, there b ne, old.1)))
        ];
        all = λ b upto lower. elim (cases_eq b bucket) [
          | inl e ↦ absurd (omega (arith, here b e))
          | inr ne ↦ (changes.others b ne).1 (filled.all b upto (omega (arith, there b ne)))
        ];
      }

-- how many items are queued
pub counted_most : (costs : List (Option ℕ)) → sum_by weight costs ≤ length costs
counted_most costs = omega (arith, sum_by-le weight 1 costs (λ k d h. light (get_or costs k d)))
  where
    light : (o : Option ℕ) → weight o ≤ 1
    light None = omega arith
    light (Some c) = omega arith

pub counted_more : (costs : List (Option ℕ)) (i c : ℕ) → i < length costs → slice_index_or costs i None ≡ None →
    sum_by weight (set costs i (Some c)) ≡ sum_by weight costs + 1
counted_more costs i c within free =
    let light : weight (get_or costs i None) ≡ 0 = ap weight free in
    omega (arith, sum_by-set weight costs i (Some c) None within)

pub counted_less : (costs : List (Option ℕ)) (i c : ℕ) → i < length costs → slice_index_or costs i None ≡ Some c →
    sum_by weight (set costs i None) + 1 ≡ sum_by weight costs
counted_less costs i c within queued =
    let heavy : weight (get_or costs i None) ≡ 1 = ap weight queued in
    omega (arith, sum_by-set weight costs i None None within)

-- how far apart the remainders of two numbers are
turn_within : (x d w : ℕ) → x % w + d < w → (x + d) % w ≡ x % w + d
turn_within x d w less = sym (mod-add-mod x w d) ∙ mod-eq_of_lt less

turn_past : (x d w : ℕ) → d < w → 0 < w → w ≤ x % w + d → (x + d) % w ≡ x % w + d - w
turn_past x d w small some more =
    let low : x % w < w = mod_below x w some in
    let rest : x % w + d - w < w = omega arith in
    let back : x % w + d - w + w ≡ x % w + d = omega arith in
    sym (mod-add-mod x w d) ∙ (ap (λ n. n % w) (sym back) ∙ add-mod_right (x % w + d - w) w ∙ mod-eq_of_lt rest)

module _ (span popped : ℕ) (costs : List (Option ℕ)) (next prev words : List ℕ) (bucketed : IsBucketed span popped costs next prev)
    (filled : AreFilled span (length costs) next words) where
  queued_within : (k c : ℕ) → slice_index_or costs k None ≡ Some c → k < length costs
  queued_within k c queued = elim (cases_lt k (length costs)) [
    | inl less ↦ less
    | inr out ↦ absurd (let none : slice_index_or costs k None ≡ None = get_or_past costs k None out in let bad : ⊥ = cc (none, queued) in bad)
  ]

  -- the bucket of a queued item is in the set
  pub marked : (k c : ℕ) → slice_index_or costs k None ≡ Some c → IsIn words (c % (span + 1))
  marked k c queued =
      let low : c % (span + 1) < span + 1 = mod_below c (span + 1) (omega arith) in
      filled.all (c % (span + 1)) (omega arith) (elim (cases_lt (slice_index next (length costs + c % (span + 1))) (length costs)) [
        | inl less ↦ less
        | inr past ↦ absurd (none_in (length costs) (length costs + span + 1) (omega arith) next prev (bucket_at (span + 1) costs) bucketed.chains
            (c % (span + 1)) (length costs + c % (span + 1))
            (λ s head_slot within_slots at.
            (let there : Some (s - length costs) ≡ Some (c % (span + 1)) = sym (bucket_at-head (span + 1) costs s head_slot) ∙ at in
            let same : s - length costs ≡ c % (span + 1) = cc there in omega arith))
            past k (queued_within k c queued)
            (bucket_at-queued (span + 1) costs k c (queued_within k c queued) queued))
      ])

  -- how far the first bucket on the way around is from that of the cost popped last
  steps : (from bucket : ℕ) → from ≡ popped % (span + 1) → IsNextAround words from bucket →
      (step : ℕ) × (step ≤ span) × (bucket ≡ (popped + step) % (span + 1)) × ((k c : ℕ) → slice_index_or costs k None ≡ Some c → popped + step ≤ c)
  steps from bucket is around =
      let inside : bucket ≤ span = (filled.only bucket around.member).0 in
      elim (cases_lt bucket from) [
        | inr ahead ↦
            (let fits : popped % (span + 1) + (bucket - from) < span + 1 = omega arith in (
              bucket - from,
              omega arith,
              sym (turn_within popped (bucket - from) (span + 1) fits ∙ (let e : popped % (span + 1) + (bucket - from) ≡ bucket = omega arith in e)),
              λ k c queued. elim (cases_lt (c - popped) (bucket - from)) [
                | inr far ↦ (let low : popped ≤ c = bucketed.low k c queued in omega arith)
                | inl near ↦
                    (let low : popped ≤ c = bucketed.low k c queued in
                    let at : c % (span + 1) ≡ popped % (span + 1) + (c - popped) =
                    ap (λ n. n % (span + 1)) (let e : c ≡ popped + (c - popped) = omega arith in e) ∙ turn_within popped (c - popped) (span + 1) (omega arith) in
                    let upto : bucket ≤ c % (span + 1) = around.ahead ahead (c % (span + 1)) (omega arith) (marked k c queued) in
                    omega arith)
              ],
            ))
        | inl before ↦
            (let low_from : popped % (span + 1) < span + 1 = mod_below popped (span + 1) (omega arith) in
            let step : ℕ = bucket + (span + 1) - from in (
              bucket + (span + 1) - from,
              omega arith,
              sym (turn_past popped (bucket + (span + 1) - from) (span + 1) (omega arith) (omega arith) (omega arith) ∙
                  (let e : popped % (span + 1) + (bucket + (span + 1) - from) - (span + 1) ≡ bucket = omega arith in e)),
              λ k c queued. elim (cases_lt (c - popped) (bucket + (span + 1) - from)) [
                | inr far ↦ (let low : popped ≤ c = bucketed.low k c queued in omega arith)
                | inl near ↦
                    (let low : popped ≤ c = bucketed.low k c queued in
                    let split : c ≡ popped + (c - popped) = omega arith in
                    let there = around.around before (c % (span + 1)) (marked k c queued) in
                    absurd (elim (cases_lt (popped % (span + 1) + (c - popped)) (span + 1)) [
                      | inl less ↦
                          (let at : c % (span + 1) ≡ popped % (span + 1) + (c - popped) =
                          ap (λ n. n % (span + 1)) split ∙ turn_within popped (c - popped) (span + 1) less in omega (arith, there.0))
                      | inr more ↦
                          (let at : c % (span + 1) ≡ popped % (span + 1) + (c - popped) - (span + 1) =
                          ap (λ n. n % (span + 1)) split ∙ turn_past popped (c - popped) (span + 1) (omega arith) (omega arith) more in omega (arith, there.1))
                    ]))
              ],
            ))
      ]

  module _ (from bucket head : ℕ) (is : from ≡ popped % (span + 1)) (around : IsNextAround words from bucket) (is_head : head ≡ length costs + bucket) where
    pub first_is_least : (cost : ℕ) → slice_index_or costs (slice_index next head) None ≡ Some cost →
        IsLeast (record { span = span; popped = popped; costs = costs }) (slice_index next head) cost
    first_is_least cost queued = let turn = steps from bucket is around in
        found span popped costs next prev bucketed turn.0 bucket head turn.1 turn.2 is_head turn.3 cost queued

    -- the chain of a bucket of the set begins with an item that is queued
    pub first_is_queued : slice_index_or costs (slice_index next head) None ≡ None → ⊥
    first_is_queued free =
        let inside = filled.only bucket around.member in
        let within : slice_index next head < length costs = rw is_head inside.1 in
        let same = (bucketed.chains.onward head bucket (omega (arith, inside.0))
        (bucket_at-head (span + 1) costs head (omega arith) ∙ ap (λ b. Some b) (let e : head - length costs ≡ bucket = omega arith in e))).same within in
        let none = bucket_at-free (span + 1) costs (slice_index next head) within free in
        let bad : ⊥ = cc (same, none) in bad

no_cost : (o : Option ℕ) → ((c : ℕ) → o ≡ Some c → ⊥) → o ≡ None
no_cost None h = refl
no_cost (Some c) h = absurd (h c refl)

-- where the set is empty, nothing is queued
pub none_marked : (span popped : ℕ) (costs : List (Option ℕ)) (next prev words : List ℕ) → IsBucketed span popped costs next prev →
    AreFilled span (length costs) next words → HasNoneIn words 0 → IsEmpty (record { span = span; popped = popped; costs = costs })
none_marked span popped costs next prev words bucketed filled none i = no_cost (slice_index_or costs i None)
    (λ c queued. none (c % (span + 1)) (omega arith) (marked span popped costs next prev words bucketed filled i c queued))

-- where no item is counted, nothing is queued, and the other way round
pub none_counted : (costs : List (Option ℕ)) → sum_by weight costs ≡ 0 → (i : ℕ) → slice_index_or costs i None ≡ None
none_counted costs none i = elim (cases_lt i (length costs)) [
  | inr past ↦ get_or_past costs i None past
  | inl within ↦ no_cost (slice_index_or costs i None) (λ c queued. omega (arith, counted_less costs i c within queued))
]

pub counted_none : (costs : List (Option ℕ)) → ((i : ℕ) → slice_index_or costs i None ≡ None) → sum_by weight costs ≡ 0
counted_none costs none =
    let few : sum_by weight costs ≤ length costs * 0 = sum_by-le weight 0 costs (λ k d h.
    (let free : weight (get_or costs k d) ≡ 0 = ap weight (get_or_default costs k d None h ∙ none k) in omega (arith, free))) in
    omega arith

-- costs of which none is left
pub all_free : (costs : List (Option ℕ)) → ((i : ℕ) → slice_index_or costs i None ≡ None) → (n : ℕ) → length costs ≡ n → costs ≡ replicate n None
all_free costs none n size =
    let free : Option ℕ = None in
    same_lists costs (replicate n free) (size ∙ sym (length-replicate n free))
    (λ k d h. get_or_default costs k d None h ∙ none k ∙ sym (get_or-replicate n k free d (omega arith)))

-- what a place in the links leads to is what comes back to it
pub before_leads : (span popped : ℕ) (costs : List (Option ℕ)) (next prev : List ℕ) → IsBucketed span popped costs next prev → (i cost : ℕ) →
    i < length costs → slice_index_or costs i None ≡ Some cost → slice_index next (slice_index prev i) ≡ i
before_leads span popped costs next prev bucketed i cost within queued =
    (bucketed.chains.back i (cost % (span + 1)) within (bucket_at-queued (span + 1) costs i cost within queued)).onward

-- where nothing is queued yet
pub none_filled : (span items : ℕ) (next : List ℕ) → next ≡ replicate (items + span + 1) items → AreFilled span items next (replicate (span / 64 + 1) 0)
none_filled span items next is = record {
  words_length = length-replicate (span / 64 + 1) 0;
  only = λ b member. absurd (let zero_is : bit_at (slice_index (replicate (span / 64 + 1) 0) (b / 64)) (b % 64) ≡ 0 = rw (no_word (b / 64)) (bit_at-zero (b % 64)) in
      let bad : ⊥ = cc (member, zero_is) in bad);
  all = λ b upto lower. absurd (let ends : slice_index next (items + b) ≡ items = ap (λ xs. slice_index xs (items + b)) is
      ∙ get_or-replicate (items + span + 1) (items + b) items 0 (omega arith) in omega arith);
}
  where
    no_word : (k : ℕ) → slice_index (replicate (span / 64 + 1) 0) k ≡ 0
    no_word k = elim (cases_lt k (span / 64 + 1)) [
      | inl inside ↦ get_or-replicate (span / 64 + 1) k 0 0 inside
      | inr past ↦ get_or_past (replicate (span / 64 + 1) 0) k 0 (omega (arith, length-replicate {A = ℕ} (span / 64 + 1) 0))
    ]

pub none_weigh : (n : ℕ) → 0 ≡ sum_by weight (replicate n None)
none_weigh n = sym (counted_none (replicate n None) (λ i. elim (cases_lt i n) [
  | inl inside ↦ get_or-replicate n i None None inside
  | inr past ↦ get_or_past (replicate n None) i None (omega (arith, length-replicate {A = Option ℕ} n None))
]))

pub at_none : {X P : Type 0} (Q : X → Type 0) (o : Option X) → is_some o ≡ false → MatchOption o P Q → P
at_none Q None _ told = told
at_none Q (Some x) some _ = absurd (let bad : ⊥ = cc some in bad)
