-- What the arrays of lists say of a position: what leads to it and what it leads to, linked or not.
use Rattle.std.proofs.Common.{◌≡◌, ◌<◌, ◌≤◌, ◌+◌, inl, inr, ℕ, List, [], ◌∷◌, ◌++◌, length, set, sym, ap, ◌∙◌, arith}
use Rattle.std.specs.Prelude.{slice_index}
use Rattle.std.specs.List.{Contains}
use Rattle.std.proofs.lemmas.List.{length-append, length-set, get_or_default}
use Rattle.link_lists.specs.Arrays.{slot_of}
use Rattle.link_lists.specs.Links.{list_at, LeadsTo, IsLinkage, AreLinksInArrays, IsLinkageInArrays}
use Rattle.link_lists.proofs.Relinking.{list_at-head}
use Rattle.link_lists.proofs.Filling.{none_linked, linked_more}
use Rattle.link_lists.proofs.Stack.{unlinked_more, unlinked_less, is_position}
use Rattle.link_lists.proofs.Shown.{contains_or_not}
use Rattle.link_lists.proofs.Arrays.{prev_length, prev_read, slot_of-written, next_read, first_read, put_first, one_written, first_written, none_written, all_slots}

-- a slot past the positions that leads to one is what its list begins with
head_of : {slots : ℕ} {owner : List ℕ} {Out : ℕ → Type 0} {s i : ℕ} → LeadsTo slots owner Out s i → i < length owner →
    length owner ≤ s → s ≡ length owner + slice_index owner i
head_of {owner = owner} {s = s} {i = i} leads within head =
    let of_list : slice_index owner i ≡ list_at owner s = leads.least.owned within in
    omega (arith, of_list, list_at-head owner s head)

module _ (lists : ℕ) (owner next firsts prev unlinked : List ℕ) (capacity : ℕ)
    (kept : IsLinkageInArrays lists owner next firsts prev unlinked capacity) where
  pub firsts_length : length firsts ≡ lists
  firsts_length = omega (arith, length-append next firsts, kept.linkage.links.next_length, kept.written.next_length)

  pub prev_size : length prev ≡ length owner + 1
  prev_size = prev_length (length owner) next prev kept.places kept.written ∙ kept.linkage.links.prev_length

  -- what a position leads to, or led to when it was unlinked, is a position or the end
  slot_upto : (i : ℕ) → i < length owner → slice_index (next ++ firsts) i ≤ length owner
  slot_upto i within = elim (contains_or_not unlinked i) [
    | inl has ↦
        (let is : slice_index unlinked has.0 ≡ i = get_or_default unlinked has.0 0 i has.1 ∙ has.2 in
        let place = kept.linkage.kept has.0 has.1 in
        (rw is at place.after).upto)
    | inr live ↦ (kept.linkage.links.onward i (omega arith) (λ _. live)).upto
  ]

  -- what leads to a position, or led to it when it was unlinked, is the slot that is written down
  pub place_in : (i : ℕ) → i < length owner → slice_index kept.places i < length owner + lists
  place_in i within = elim (contains_or_not unlinked i) [
    | inl has ↦
        (let is : slice_index unlinked has.0 ≡ i = get_or_default unlinked has.0 0 i has.1 ∙ has.2 in
        let place = kept.linkage.kept has.0 has.1 in
        (rw is at place.before).within)
    | inr live ↦ (kept.linkage.links.back i within live).within
  ]

  place_head : (i : ℕ) → i < length owner → length owner ≤ slice_index kept.places i →
      slice_index kept.places i ≡ length owner + slice_index owner i
  place_head i within head = elim (contains_or_not unlinked i) [
    | inl has ↦
        (let is : slice_index unlinked has.0 ≡ i = get_or_default unlinked has.0 0 i has.1 ∙ has.2 in
        let place = kept.linkage.kept has.0 has.1 in
        head_of (rw is at place.before) within head)
    | inr live ↦ head_of (kept.linkage.links.back i within live) within head
  ]

  pub place_is : (i : ℕ) → i < length owner → slot_of (length next) (slice_index owner i) (slice_index prev i) ≡ slice_index kept.places i
  place_is i within =
      let read = prev_read (length owner) next prev kept.places kept.written i (omega (arith, within, kept.linkage.links.prev_length)) in
      rw (read, kept.written.next_length) (slot_of-written (length owner) (slice_index owner i) (slice_index kept.places i) (place_head i within))

  pub next_upto : (i : ℕ) → i < length owner → slice_index next i ≤ length owner
  next_upto i within = omega (arith, next_read next firsts i (omega (arith, kept.written.next_length)), slot_upto i within)

  pub place_within : (i : ℕ) → i < length owner → slot_of (length next) (slice_index owner i) (slice_index prev i) < length next + length firsts
  place_within i within = omega (arith, place_is i within, place_in i within, firsts_length, kept.written.next_length)

  -- the arrays after a position was unlinked
  pub unlinked_in : (i : ℕ) → i < length owner → (Contains unlinked i → ⊥) → (next' firsts' : List ℕ) → length next' ≡ length next →
      next' ++ firsts' ≡ set (next ++ firsts) (slot_of (length next) (slice_index owner i) (slice_index prev i)) (slice_index next i) →
      IsLinkageInArrays lists owner next' firsts' (set prev (slice_index next i) (slice_index prev i)) (unlinked ++ i ∷ []) capacity
  unlinked_in i within live next' firsts' size told =
      let now : next' ++ firsts' ≡ set (next ++ firsts) (slice_index kept.places i) (slice_index next i) =
      told ∙ ap (λ s. set (next ++ firsts) s (slice_index next i)) (place_is i within) in
      let read : slice_index (next ++ firsts) i ≡ slice_index next i = next_read next firsts i (omega (arith, kept.written.next_length)) in
      let old : IsLinkage lists owner (set (next ++ firsts) (slice_index kept.places i) (slice_index next i))
      (set kept.places (slice_index next i) (slice_index kept.places i)) (unlinked ++ i ∷ []) capacity =
      rw read at (unlinked_more lists owner (next ++ firsts) kept.places capacity unlinked i kept.linkage within live) in
      record {
        places = set kept.places (slice_index next i) (slice_index kept.places i);
        written = one_written (length owner) next prev kept.places kept.written next' (slice_index next i) (slice_index kept.places i)
            (slice_index prev i) (size ∙ kept.written.next_length)
            (prev_read (length owner) next prev kept.places kept.written i (omega (arith, within, kept.linkage.links.prev_length)));
        linkage = rw now old;
      }

-- the arrays after the position that was unlinked last was relinked
module _ (lists : ℕ) (owner next firsts prev before : List ℕ) (i capacity : ℕ)
    (kept : IsLinkageInArrays lists owner next firsts prev (before ++ i ∷ []) capacity) where
  pub last_within : i < length owner
  last_within = is_position lists owner (next ++ firsts) kept.places capacity before i kept.linkage

  pub relinked_in : (next' firsts' : List ℕ) → length next' ≡ length next →
      next' ++ firsts' ≡ set (next ++ firsts) (slot_of (length next) (slice_index owner i) (slice_index prev i)) i →
      IsLinkageInArrays lists owner next' firsts' (set prev (slice_index next i) i) before capacity
  relinked_in next' firsts' size told =
      let now : next' ++ firsts' ≡ set (next ++ firsts) (slice_index kept.places i) i =
      told ∙ ap (λ s. set (next ++ firsts) s i) (place_is lists owner next firsts prev (before ++ i ∷ []) capacity kept i last_within) in
      let read : slice_index (next ++ firsts) i ≡ slice_index next i = next_read next firsts i (omega (arith, last_within, kept.written.next_length)) in
      let old : IsLinkage lists owner (set (next ++ firsts) (slice_index kept.places i) i) (set kept.places (slice_index next i) i) before capacity =
      rw read at (unlinked_less lists owner (next ++ firsts) kept.places capacity before i kept.linkage) in
      record {
        places = set kept.places (slice_index next i) i;
        written = one_written (length owner) next prev kept.places kept.written next' (slice_index next i) i i
            (size ∙ kept.written.next_length) (omega (arith, last_within));
        linkage = rw now old;
      }

-- the arrays of lists that hold nothing
pub none_in_arrays : (owner next firsts prev : List ℕ) (Out : ℕ → Type 0) → length next ≡ length owner → length prev ≡ length owner + 1 →
    ((k : ℕ) → k < length owner → Out k) →
    ((k : ℕ) → k < length next → slice_index next k ≡ length owner) → ((k : ℕ) → k < length firsts → slice_index firsts k ≡ length owner) →
    ((k : ℕ) → k < length prev → slice_index prev k ≡ length owner) → AreLinksInArrays owner Out next firsts prev
none_in_arrays owner next firsts prev Out size prev_size out none none_first none_before = record {
  places = prev;
  written = none_written (length owner) next prev size none_before;
  links = none_linked (length owner + length firsts) owner Out (next ++ firsts) prev (omega (arith, length-append next firsts)) prev_size out
      (λ s inside. all_slots next firsts (length owner) none none_first s (omega arith));
}

-- the arrays after one position more was linked, in front of its list
module _ (owner next firsts prev : List ℕ) (top i list after : ℕ) (is_top : top ≡ i + 1) (upto : top ≤ length owner)
    (list_is : list ≡ slice_index owner i) (inside : list < length firsts) (after_is : after ≡ slice_index firsts list)
    (linked : AreLinksInArrays owner (λ k. k < top) next firsts prev) where
  read_first : after ≡ slice_index (next ++ firsts) (length owner + list)
  read_first = after_is ∙ sym (first_read next firsts (length owner) list linked.written.next_length)

  pub after_upto : after ≤ length owner
  after_upto = rw read_first ((linked.links.onward (length owner + list) (omega arith) (λ h. absurd (omega arith))).upto)

  pub linked_more_in : AreLinksInArrays owner (λ k. k < i) (set next i after) (set firsts list i) (set (set prev i (length owner)) after i)
  linked_more_in = record {
    places = set (set linked.places i (length owner + list)) after i;
    written = first_written (length owner) next prev linked.places (set next i after) i list after linked.written
        (length-set next i after ∙ linked.written.next_length) (omega arith);
    links = rw (length-set firsts list i, ← put_first next firsts (length owner) list i after linked.written.next_length (omega arith))
        (linked_more (length owner + length firsts) owner (next ++ firsts) linked.places top i (length owner + list) after
        is_top upto (omega (arith, list_is)) (omega arith) read_first linked.links);
  }
