-- The items of a queue in their buckets: what a push, a pop and a search for the least leave.
use Rattle.std.proofs.Common.{◌≡◌, ◌<◌, ◌≤◌, ◌+◌, ◌-◌, ◌%◌, ◌^◌, inl, inr, ℕ, List, Option, Some, None, length, set, replicate, refl, sym, ap, ◌∙◌, subst, arith}
use Rattle.std.specs.Prelude.{slice_index, slice_index_or}
use Rattle.std.specs.Option.{option_map}
use Rattle.std.proofs.lemmas.List.{length-set, length-replicate, get_or-set_same, get_or-set_other, get_or-replicate, get_or_past}
use Rattle.std.proofs.lemmas.Bool.{cases_eq, cases_lt, cond-true, cond-false, lt-ltb, le-ltb}
use Rattle.std.proofs.lemmas.Nat.{mod_below}
use Rattle.std.proofs.Math.Nat.{mod-add-mod, add-mod_right, mod-eq_of_lt}
use Rattle.link_lists.specs.Queued.{IsLeast, IsEmpty, IsSoundQueue}
use Rattle.link_lists.specs.Buckets.{bucket_at, LeadsOn, IsBucketed}
use Rattle.link_lists.proofs.Chaining.{none_in, chained, unchained}

pub bucket_at-item : (width : ℕ) (costs : List (Option ℕ)) (i : ℕ) → i < length costs →
    bucket_at width costs i ≡ option_map (λ cost. cost % width) (slice_index_or costs i None)
unfolding bucket_at
bucket_at-item width costs i h = cond-true _ _ _ (lt-ltb i (length costs) h)

pub bucket_at-head : (width : ℕ) (costs : List (Option ℕ)) (s : ℕ) → length costs ≤ s →
    bucket_at width costs s ≡ Some (s - length costs)
unfolding bucket_at
bucket_at-head width costs s h = cond-false _ _ _ (le-ltb s (length costs) h)

pub bucket_at-queued : (width : ℕ) (costs : List (Option ℕ)) (i c : ℕ) → i < length costs → slice_index_or costs i None ≡ Some c →
    bucket_at width costs i ≡ Some (c % width)
bucket_at-queued width costs i c h e = bucket_at-item width costs i h ∙ ap (option_map (λ cost. cost % width)) e

pub bucket_at-free : (width : ℕ) (costs : List (Option ℕ)) (i : ℕ) → i < length costs → slice_index_or costs i None ≡ None →
    bucket_at width costs i ≡ None
bucket_at-free width costs i h e = bucket_at-item width costs i h ∙ ap (option_map (λ cost. cost % width)) e

-- another item's cost changes nothing
bucket_at-set : (width : ℕ) (costs : List (Option ℕ)) (i k : ℕ) (x : Option ℕ) → (k ≡ i → ⊥) →
    bucket_at width (set costs i x) k ≡ bucket_at width costs k
bucket_at-set width costs i k x apart = elim (cases_lt k (length costs)) [
  | inl item ↦
      bucket_at-item width (set costs i x) k (rw length-set item)
      ∙ ap (option_map (λ cost. cost % width)) (get_or-set_other costs i k x None apart)
      ∙ sym (bucket_at-item width costs k item)
  | inr head ↦
      bucket_at-head width (set costs i x) k (rw length-set head)
      ∙ ap (λ n. Some (k - n)) (length-set costs i x)
      ∙ sym (bucket_at-head width costs k head)
]

-- one cost that is written keeps what holds of all costs
costs_set : (P : ℕ → Type 0) (costs : List (Option ℕ)) (i : ℕ) (x : Option ℕ) → ((c : ℕ) → x ≡ Some c → P c) →
    ((k c : ℕ) → slice_index_or costs k None ≡ Some c → P c) →
    (k c : ℕ) → slice_index_or (set costs i x) k None ≡ Some c → P c
costs_set P costs i x here all k c e = elim (cases_eq k i) [
  | inl is ↦ elim (cases_lt i (length costs)) [
    | inl within ↦ here c (sym (get_or-set_same costs i x None within) ∙ subst (λ t. slice_index_or (set costs i x) t None ≡ Some c) is e)
    | inr past ↦ absurd (let bad : ◌≡◌ {A = Option ℕ} None (Some c) =
        sym (get_or_past (set costs i x) k None (rw length-set (omega arith))) ∙ e in let no : ⊥ = cc bad in no)
  ]
  | inr apart ↦ all k c (sym (get_or-set_other costs i k x None apart) ∙ e)
]

-- what no cost is below, none is below when one is taken out
pub still_least : (costs : List (Option ℕ)) (i cost : ℕ) → ((k c : ℕ) → slice_index_or costs k None ≡ Some c → cost ≤ c) →
    (k c : ℕ) → slice_index_or (set costs i None) k None ≡ Some c → cost ≤ c
still_least costs i cost least = costs_set (λ c. cost ≤ c) costs i None (λ c e. absurd (let bad : ⊥ = cc e in bad)) least

-- the bucket of the next cost: the next one, or the first behind the last
pub next_bucket : (x span bucket next : ℕ) → bucket ≡ x % (span + 1) → (bucket < span → next ≡ bucket + 1) → (span ≤ bucket → next ≡ 0) →
    next ≡ (x + 1) % (span + 1)
next_bucket x span bucket next is on around =
    let low : x % (span + 1) < span + 1 = mod_below x (span + 1) (omega arith) in
    let sum : (bucket + 1) % (span + 1) ≡ (x + 1) % (span + 1) = ap (λ n. (n + 1) % (span + 1)) is ∙ mod-add-mod x (span + 1) 1 in
    elim (cases_lt bucket span) [
      | inl less ↦ (let small : bucket + 1 < span + 1 = omega arith in on less ∙ sym (mod-eq_of_lt small) ∙ sum)
      | inr last ↦
          (let whole : bucket + 1 ≡ 0 + (span + 1) = omega (arith, is) in
          let zero_is : (bucket + 1) % (span + 1) ≡ 0 =
          ap (λ n. n % (span + 1)) whole ∙ add-mod_right 0 (span + 1) ∙ mod-eq_of_lt (let pos : 0 < span + 1 = omega arith in pos) in
          around last ∙ sym zero_is ∙ sum)
    ]

module _ (span popped : ℕ) (costs : List (Option ℕ)) (next prev : List ℕ) (bucketed : IsBucketed span popped costs next prev) where
  pub pushed : (i cost head : ℕ) → i < length costs → slice_index_or costs i None ≡ None → popped ≤ cost → cost ≤ popped + span →
      head ≡ length costs + cost % (span + 1) →
      IsBucketed span popped (set costs i (Some cost)) (set (set next i (slice_index next head)) head i) (set (set prev i head) (slice_index next head) i)
  pushed i cost head within free low high is = record {
    few = rw length-set bucketed.few;
    narrow = bucketed.narrow;
    low = costs_set (λ c. popped ≤ c) costs i (Some cost) (λ c e. (let same : cost ≡ c = cc e in omega arith)) bucketed.low;
    high = costs_set (λ c. c ≤ popped + span) costs i (Some cost) (λ c e. (let same : cost ≡ c = cc e in omega arith)) bucketed.high;
    chains = rw (length-set costs i (Some cost)) (chained (length costs) (length costs + span + 1) (omega arith) next prev
        (bucket_at (span + 1) costs) bucketed.chains (bucket_at (span + 1) (set costs i (Some cost))) i (cost % (span + 1)) within
        (λ k apart. bucket_at-set (span + 1) costs i k (Some cost) apart) head
        (bucket_at-free (span + 1) costs i within free)
        (bucket_at-queued (span + 1) (set costs i (Some cost)) i cost (rw length-set within) (get_or-set_same costs i (Some cost) None within))
        (omega arith)
        (let below : cost % (span + 1) < span + 1 = mod_below cost (span + 1) (omega arith) in omega arith)
        (bucket_at-head (span + 1) costs head (omega arith) ∙ ap (λ b. Some b) (let b : head - length costs ≡ cost % (span + 1) = omega arith in b)));
  }

  pub taken : (i cost : ℕ) → i < length costs → slice_index_or costs i None ≡ Some cost →
      IsBucketed span popped (set costs i None) (set next (slice_index prev i) (slice_index next i)) (set prev (slice_index next i) (slice_index prev i))
  taken i cost within queued = record {
    few = rw length-set bucketed.few;
    narrow = bucketed.narrow;
    low = costs_set (λ c. popped ≤ c) costs i None (λ c e. absurd (let bad : ⊥ = cc e in bad)) bucketed.low;
    high = costs_set (λ c. c ≤ popped + span) costs i None (λ c e. absurd (let bad : ⊥ = cc e in bad)) bucketed.high;
    chains = (let none : Option ℕ = None in rw (length-set costs i none) (unchained (length costs) (length costs + span + 1) (omega arith) next prev
        (bucket_at (span + 1) costs) bucketed.chains (bucket_at (span + 1) (set costs i None)) i (cost % (span + 1)) within
        (λ k apart. bucket_at-set (span + 1) costs i k None apart)
        (bucket_at-queued (span + 1) costs i cost within queued)
        (bucket_at-free (span + 1) (set costs i None) i (rw length-set within) (get_or-set_same costs i none None within))));
  }

  -- the cost popped last goes up to what no cost is below
  pub raised : (cost : ℕ) → popped ≤ cost → ((k c : ℕ) → slice_index_or costs k None ≡ Some c → cost ≤ c) →
      IsBucketed span cost costs next prev
  raised cost above least = record {
    few = bucketed.few;
    narrow = bucketed.narrow;
    low = least;
    high = λ k c e. (let old : c ≤ popped + span = bucketed.high k c e in omega arith);
    chains = bucketed.chains;
  }

  pub sound : IsSoundQueue (record { span = span; popped = popped; costs = costs })
  sound = record { few = bucketed.few; narrow = bucketed.narrow; low = bucketed.low; high = bucketed.high }

  -- what the links of a queued item and of a bucket lead to
  pub next_upto : (head b : ℕ) → b ≤ span → head ≡ length costs + b → slice_index next head ≤ length costs
  next_upto head b inside is =
      (bucketed.chains.onward head b (omega arith)
      (bucket_at-head (span + 1) costs head (omega arith) ∙ ap (λ b. Some b) (let e : head - length costs ≡ b = omega arith in e))).upto

  pub item_next_upto : (i cost : ℕ) → i < length costs → slice_index_or costs i None ≡ Some cost → slice_index next i ≤ length costs
  item_next_upto i cost within queued =
      (bucketed.chains.onward i (cost % (span + 1)) (omega arith) (bucket_at-queued (span + 1) costs i cost within queued)).upto

-- nothing is queued yet
pub none_queued : (items span : ℕ) (next prev : List ℕ) → items < 2 ^ 32 → span < 2 ^ 32 →
    next ≡ replicate (items + span + 1) items → length prev ≡ items + 1 →
    IsBucketed span 0 (replicate items None) next prev
none_queued items span next prev few narrow is prev_length =
    let none : Option ℕ = None in
    let nothing : (k : ℕ) → slice_index_or (replicate items none) k None ≡ None = λ k. elim (cases_lt k items) [
      | inl within ↦ get_or-replicate items k none None within
      | inr past ↦ get_or_past (replicate items none) k None (omega (arith, length-replicate items none))
    ] in
    let no_bucket : (k b : ℕ) → k < items → bucket_at (span + 1) (replicate items none) k ≡ Some b → ⊥ = λ k b within e.
    (let free : bucket_at (span + 1) (replicate items none) k ≡ None =
    bucket_at-free (span + 1) (replicate items none) k (omega (arith, length-replicate items none)) (nothing k) in cc (free, e)) in
    record {
      few = rw (length-replicate items none) few;
      narrow = narrow;
      low = λ k c e. omega arith;
      high = λ k c e. absurd (let free : slice_index_or (replicate items none) k None ≡ None = nothing k in let bad : ⊥ = cc (free, e) in bad);
      chains = rw (length-replicate items none) (record {
        next_length = ap length is ∙ length-replicate (items + span + 1) items;
        prev_length = prev_length;
        onward = λ s b inside e.
            (let ends : slice_index next s ≡ items = ap (λ (xs : List ℕ). slice_index xs s) is ∙ get_or-replicate (items + span + 1) s items 0 inside in
            rw ends (record { upto = omega arith; same = λ h. absurd (omega arith); back = λ h. absurd (omega arith) }));
        back = λ k b within e. absurd (no_bucket k b within e);
        grounded = λ p closed k has. closed.queued k has
            (bucket_at-free (span + 1) (replicate items none) k (rw (length-replicate items none) (closed.within k has)) (nothing k));
      });
    }

-- numbers less than w apart with one is are one
same_mod : (x d w : ℕ) → d < w → (x + d) % w ≡ x % w → d ≡ 0
same_mod x d w small same =
    let r : ℕ = x % w in
    let low : x % w < w = mod_below x w (omega arith) in
    let sum : (x % w + d) % w ≡ x % w = mod-add-mod x w d ∙ same in
    elim (cases_lt (x % w + d) w) [
      | inl less ↦ (let whole : (x % w + d) % w ≡ x % w + d = mod-eq_of_lt less in omega arith)
      | inr more ↦
          (let rest : x % w + d - w < w = omega arith in
          let once : (x % w + d) % w ≡ x % w + d - w =
          (let back : x % w + d - w + w ≡ x % w + d = omega arith in
          ap (λ n. n % w) (sym back) ∙ add-mod_right (x % w + d - w) w ∙ mod-eq_of_lt rest) in
          omega arith)
    ]

module _ (span popped : ℕ) (costs : List (Option ℕ)) (next prev : List ℕ) (bucketed : IsBucketed span popped costs next prev)
    (step bucket head : ℕ) (early : step ≤ span) (is : bucket ≡ (popped + step) % (span + 1)) (is_head : head ≡ length costs + bucket)
    (least : (k c : ℕ) → slice_index_or costs k None ≡ Some c → popped + step ≤ c) where
  inside : bucket < span + 1
  inside = (let low : (popped + step) % (span + 1) < span + 1 = mod_below (popped + step) (span + 1) (omega arith) in omega (arith, is))

  of_bucket : bucket_at (span + 1) costs head ≡ Some bucket
  of_bucket = bucket_at-head (span + 1) costs head (omega arith) ∙ ap (λ b. Some b) (let e : head - length costs ≡ bucket = omega arith in e)

  lead : LeadsOn (length costs) (bucket_at (span + 1) costs) prev head bucket (slice_index next head)
  lead = bucketed.chains.onward head bucket (omega (arith, inside)) of_bucket

  -- what the bucket's chain begins with is queued at that cost
  pub found : (cost : ℕ) → slice_index_or costs (slice_index next head) None ≡ Some cost →
      IsLeast (record { span = span; popped = popped; costs = costs }) (slice_index next head) cost
  found cost queued =
      let within : slice_index next head < length costs = elim (cases_lt (slice_index next head) (length costs)) [
        | inl less ↦ less
        | inr past ↦ absurd (let free : slice_index_or costs (slice_index next head) None ≡ None = get_or_past costs (slice_index next head) None past in
            let bad : ⊥ = cc (free, queued) in bad)
      ] in
      let same : cost % (span + 1) ≡ bucket =
      (let at : Some (cost % (span + 1)) ≡ Some bucket = sym (bucket_at-queued (span + 1) costs (slice_index next head) cost within queued) ∙ lead.same within in cc at) in
      let above : popped + step ≤ cost = least (slice_index next head) cost queued in
      let below : cost ≤ popped + span = bucketed.high (slice_index next head) cost queued in
      let split : popped + step + (cost - (popped + step)) ≡ cost = omega arith in
      let none_over : cost - (popped + step) ≡ 0 = same_mod (popped + step) (cost - (popped + step)) (span + 1) (omega arith)
      (ap (λ n. n % (span + 1)) split ∙ same ∙ is) in
      record {
        within = within;
        queued = queued;
        least = λ k c e. (let low : popped + step ≤ c = least k c e in omega arith);
      }

  -- where it begins with nothing, no item is queued at that cost
  pub passed : slice_index_or costs (slice_index next head) None ≡ None →
      (k c : ℕ) → slice_index_or costs k None ≡ Some c → popped + (step + 1) ≤ c
  passed free k c queued = elim (cases_eq c (popped + step)) [
    | inr apart ↦ (let low : popped + step ≤ c = least k c queued in omega arith)
    | inl e ↦ absurd (elim (cases_lt (slice_index next head) (length costs)) [
      | inl less ↦
          (let at : bucket_at (span + 1) costs (slice_index next head) ≡ Some bucket = lead.same less in
          let not_at : bucket_at (span + 1) costs (slice_index next head) ≡ None = bucket_at-free (span + 1) costs (slice_index next head) less free in
          let bad : ⊥ = cc (at, not_at) in bad)
      | inr past ↦
          (let within : k < length costs = elim (cases_lt k (length costs)) [
            | inl less ↦ less
            | inr out ↦ absurd (let none : slice_index_or costs k None ≡ None = get_or_past costs k None out in
                let bad : ⊥ = cc (none, queued) in bad)
          ] in
          none_in (length costs) (length costs + span + 1) (omega arith) next prev (bucket_at (span + 1) costs) bucketed.chains
          bucket head
          (λ s head_slot within_slots at.
          (let there : Some (s - length costs) ≡ Some bucket = sym (bucket_at-head (span + 1) costs s head_slot) ∙ at in
          let same : s - length costs ≡ bucket = cc there in omega arith))
          past k within
          (bucket_at-queued (span + 1) costs k c within queued ∙ ap (λ b. Some b) (ap (λ n. n % (span + 1)) e ∙ sym is)))
    ])
  ]

no_cost : (o : Option ℕ) → ((c : ℕ) → o ≡ Some c → ⊥) → o ≡ None
no_cost None h = refl
no_cost (Some c) h = absurd (h c refl)

-- where all costs lie above the window, nothing is queued
pub nothing : (span popped : ℕ) (costs : List (Option ℕ)) (next prev : List ℕ) → IsBucketed span popped costs next prev →
    ((k c : ℕ) → slice_index_or costs k None ≡ Some c → popped + (span + 1) ≤ c) →
    IsEmpty (record { span = span; popped = popped; costs = costs })
nothing span popped costs next prev bucketed least i = no_cost (slice_index_or costs i None) (λ c e.
    (let low : popped + (span + 1) ≤ c = least i c e in let high : c ≤ popped + span = bucketed.high i c e in omega arith))
