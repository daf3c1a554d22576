-- The arrays of a queue: what a push and a taking out write, and what they lead to.
use Rattle.std.proofs.Common.{◌≡◌, ◌<◌, ◌≤◌, ◌+◌, ◌-◌, ◌%◌, ◌/◌, ◌^◌, ℕ, List, ◌++◌, Option, Some, None, length, set, replicate, refl, sym, ap, ◌∙◌, arith}
use Rattle.std.specs.Prelude.{slice_index, slice_index_or}
use Rattle.std.proofs.lemmas.List.{length-append, length-set, length-replicate, get_or-replicate, replicate-append-replicate}
use Rattle.std.proofs.lemmas.Nat.{mod_below}
use Rattle.link_lists.specs.Arrays.{slot_of, written_as}
use Rattle.link_lists.specs.Bits.{IsIn}
use Rattle.link_lists.specs.Buckets.{bucket_at, LeadsBack, AreFilled, IsQueueInArrays}
use Rattle.link_lists.proofs.Arrays.{prev_length, prev_read, slot_of-written, next_read, first_read, put_first, one_written, first_written, none_written}
use Rattle.link_lists.proofs.Bucketing.{pushed, taken, next_upto, item_next_upto, bucket_at-queued, bucket_at-head, none_queued}
use Rattle.link_lists.proofs.Turning.{Changes, filled_more, filled_still, filled_less, counted_more, counted_less, none_filled, none_weigh}

module _ (span popped count : ℕ) (costs : List (Option ℕ)) (next firsts prev words : List ℕ)
    (kept : IsQueueInArrays span popped count costs next firsts prev words) where
  pub firsts_length : length firsts ≡ span + 1
  firsts_length = omega (arith, length-append next firsts, kept.queue.bucketed.chains.next_length, kept.written.next_length)

  pub prev_size : length prev ≡ length costs + 1
  prev_size = prev_length (length costs) next prev kept.places kept.written ∙ kept.queue.bucketed.chains.prev_length

  pub first_upto : (bucket : ℕ) → bucket ≤ span → slice_index firsts bucket ≤ length costs
  first_upto bucket inside =
      let read = first_read next firsts (length costs) bucket kept.written.next_length in
      let upto = next_upto span popped costs (next ++ firsts) kept.places kept.queue.bucketed (length costs + bucket) bucket inside refl in
      omega (arith, read, upto)

  pub pushed_in : (i cost bucket : ℕ) (words' : List ℕ) → i < length costs → slice_index_or costs i None ≡ None → popped ≤ cost → cost ≤ popped + span →
      bucket ≡ cost % (span + 1) → Changes bucket words words' → IsIn words' bucket →
      IsQueueInArrays span popped (count + 1) (set costs i (Some cost)) (set next i (slice_index firsts bucket)) (set firsts bucket i)
      (set (set prev i (length costs)) (slice_index firsts bucket) i) words'
  pushed_in i cost bucket words' within free low high is changes has =
      let after : ℕ = slice_index firsts bucket in
      let below : bucket < span + 1 = omega (arith, is, mod_below cost (span + 1) (omega arith)) in
      let read : slice_index (next ++ firsts) (length costs + bucket) ≡ slice_index firsts bucket =
      first_read next firsts (length costs) bucket kept.written.next_length in
      let slots_is = put_first next firsts (length costs) bucket i (slice_index firsts bucket) kept.written.next_length within in
      let bucketed_in = rw read at (pushed span popped costs (next ++ firsts) kept.places kept.queue.bucketed i cost (length costs + bucket)
      within free low high (ap (λ b. length costs + b) is)) in
      let filled_in = filled_more span (length costs) (next ++ firsts) words kept.queue.filled words' i bucket (length costs + bucket)
      (slice_index firsts bucket) changes has within (omega arith) refl (omega (arith, below, kept.queue.bucketed.chains.next_length)) in
      record {
        places = set (set kept.places i (length costs + bucket)) (slice_index firsts bucket) i;
        written = rw (length-set costs i (Some cost)) (first_written (length costs) next prev kept.places (set next i (slice_index firsts bucket))
            i bucket (slice_index firsts bucket) kept.written (length-set next i (slice_index firsts bucket) ∙ kept.written.next_length) within);
        queue = record {
          bucketed = rw (← slots_is) bucketed_in;
          filled = rw (length-set costs i (Some cost), ← slots_is) filled_in;
          counted = ap (λ n. n + 1) kept.queue.counted ∙ sym (counted_more costs i cost within free);
        };
      }

  module _ (i cost bucket : ℕ) (within : i < length costs) (queued : slice_index_or costs i None ≡ Some cost) (is : bucket ≡ cost % (span + 1)) where
    leads : LeadsBack (length costs + span + 1) (bucket_at (span + 1) costs) (next ++ firsts) i (cost % (span + 1)) (slice_index kept.places i)
    leads = kept.queue.bucketed.chains.back i (cost % (span + 1)) within (bucket_at-queued (span + 1) costs i cost within queued)

    place_head : length costs ≤ slice_index kept.places i → slice_index kept.places i ≡ length costs + bucket
    place_head head =
        let at : Some (slice_index kept.places i - length costs) ≡ Some (cost % (span + 1)) =
        sym (bucket_at-head (span + 1) costs (slice_index kept.places i) head) ∙ leads.same in
        let same : slice_index kept.places i - length costs ≡ cost % (span + 1) = cc at in
        omega (arith, same, is)

    prev_is : slice_index prev i ≡ written_as (length costs) (slice_index kept.places i)
    prev_is = prev_read (length costs) next prev kept.places kept.written i (omega (arith, within, kept.queue.bucketed.chains.prev_length))

    place_is : slot_of (length next) bucket (slice_index prev i) ≡ slice_index kept.places i
    place_is = rw (prev_is, kept.written.next_length) (slot_of-written (length costs) bucket (slice_index kept.places i) place_head)

    pub place_within : slot_of (length next) bucket (slice_index prev i) < length next + length firsts
    place_within = omega (arith, place_is, leads.within, firsts_length, kept.written.next_length)

    slot_read : slice_index (next ++ firsts) i ≡ slice_index next i
    slot_read = next_read next firsts i (omega (arith, within, kept.written.next_length))

    pub item_upto : slice_index next i ≤ length costs
    item_upto = omega (arith, slot_read, item_next_upto span popped costs (next ++ firsts) kept.places kept.queue.bucketed i cost within queued)

    module _ (next' firsts' : List ℕ) (size : length next' ≡ length next)
        (slots : next' ++ firsts' ≡ set (next ++ firsts) (slot_of (length next) bucket (slice_index prev i)) (slice_index next i)) where
      now : next' ++ firsts' ≡ set (next ++ firsts) (slice_index kept.places i) (slice_index next i)
      now = slots ∙ ap (λ s. set (next ++ firsts) s (slice_index next i)) place_is

      taken_in : (words' : List ℕ) → AreFilled span (length costs) (set (next ++ firsts) (slice_index kept.places i) (slice_index next i)) words' →
          IsQueueInArrays span popped (count - 1) (set costs i None) next' firsts' (set prev (slice_index next i) (slice_index prev i)) words'
      taken_in words' filled_in =
          let none : Option ℕ = None in
          let bucketed_in = rw slot_read at (taken span popped costs (next ++ firsts) kept.places kept.queue.bucketed i cost within queued) in
          record {
            places = set kept.places (slice_index next i) (slice_index kept.places i);
            written = rw (length-set costs i none) (one_written (length costs) next prev kept.places kept.written next' (slice_index next i)
                (slice_index kept.places i) (slice_index prev i) (size ∙ kept.written.next_length) prev_is);
            queue = record {
              bucketed = rw now bucketed_in;
              filled = rw (length-set costs i none, now) filled_in;
              counted = omega (arith, counted_less costs i cost within queued, kept.queue.counted);
            };
          }

      before_in : slice_index kept.places i < length (next ++ firsts)
      before_in = omega (arith, leads.within, kept.queue.bucketed.chains.next_length)

      -- the last of its bucket
      pub taken_last : (words' : List ℕ) → length costs ≤ slice_index prev i → length costs ≤ slice_index next i → Changes bucket words words' →
          (IsIn words' bucket → ⊥) →
          IsQueueInArrays span popped (count - 1) (set costs i None) next' firsts' (set prev (slice_index next i) (slice_index prev i)) words'
      taken_last words' first last changes gone = taken_in words' (filled_less span (length costs) (next ++ firsts) words kept.queue.filled words' bucket
          (slice_index kept.places i) (slice_index next i) changes gone (place_head (omega (arith, prev_is))) before_in last)

      -- one of several
      pub taken_still : (length costs ≤ slice_index prev i → slice_index next i < length costs) →
          IsQueueInArrays span popped (count - 1) (set costs i None) next' firsts' (set prev (slice_index next i) (slice_index prev i)) words
      taken_still onward = taken_in words (filled_still span (length costs) (next ++ firsts) words kept.queue.filled i (slice_index kept.places i)
          (slice_index next i) within before_in kept.queue.bucketed.chains.next_length leads.onward
          (λ head. onward (omega (arith, prev_is))))

-- the arrays of a queue that holds nothing
pub none_in_queue : (items span : ℕ) (next firsts prev : List ℕ) → items < 2 ^ 32 → span < 2 ^ 32 → next ≡ replicate items items →
    firsts ≡ replicate (span + 1) items → prev ≡ replicate (items + 1) items →
    IsQueueInArrays span 0 0 (replicate items None) next firsts prev (replicate (span / 64 + 1) 0)
none_in_queue items span next firsts prev few narrow next_is firsts_is prev_is =
    let none : Option ℕ = None in
    let sum : items + (span + 1) ≡ items + span + 1 = omega arith in
    let slots_is : next ++ firsts ≡ replicate (items + span + 1) items =
    rw (next_is, firsts_is) (replicate-append-replicate items (span + 1) items ∙ ap (λ n. replicate n items) sum) in
    let size : length next ≡ items = ap length next_is ∙ length-replicate items items in
    let ends : (k : ℕ) → k < length prev → slice_index prev k ≡ items = λ k h.
    (let inside : k < items + 1 = omega (arith, ap length prev_is, length-replicate (items + 1) items) in
    ap (λ xs. slice_index xs k) prev_is ∙ get_or-replicate (items + 1) k items 0 inside) in
    record {
      places = prev;
      written = rw (length-replicate items none) (none_written items next prev size ends);
      queue = record {
        bucketed = none_queued items span (next ++ firsts) prev few narrow slots_is (ap length prev_is ∙ length-replicate (items + 1) items);
        filled = rw (length-replicate items none) (none_filled span items (next ++ firsts) slots_is);
        counted = none_weigh items;
      };
    }
