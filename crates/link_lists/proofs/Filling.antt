-- Linking every position from the last to the first, each in front of those that are linked.
use Rattle.std.proofs.Common.{◌≡◌, ◌≢◌, ◌<◌, ◌≤◌, ◌+◌, inl, inr, ℕ, List, length, get_or, set, sym, subst, arith}
use Rattle.std.specs.Prelude.{slice_index}
use Rattle.std.proofs.lemmas.List.{length-set, get_or-set_same, get_or-set_other}
use Rattle.std.proofs.lemmas.Bool.{cases_lt}
use Rattle.link_lists.specs.Links.{list_at, from_at, IsNearest, LeadsTo, AreLinks}
use Rattle.link_lists.proofs.Relinking.{list_at-head, from_at-position, from_at-head, relinks}

-- the links where every position is out
pub none_linked : (slots : ℕ) (owner : List ℕ) (Out : ℕ → Type 0) (next prev : List ℕ) →
    length next ≡ slots → length prev ≡ length owner + 1 → ((k : ℕ) → k < length owner → Out k) →
    ((s : ℕ) → s < slots → slice_index next s ≡ length owner) → AreLinks slots owner Out next prev
none_linked slots owner Out next prev next_length prev_length out ends = record {
  next_length = next_length;
  prev_length = prev_length;
  onward = λ s inside on. rw (ends s inside) (record {
    upto = omega arith;
    behind = elim (cases_lt s (length owner)) [
      | inl position ↦ omega (arith, from_at-position owner s position)
      | inr head ↦ omega (arith, from_at-head owner s head)
    ];
    inside = λ position. absurd (omega arith);
    owned = λ position. absurd (omega arith);
    least = λ k behind less same in_it. in_it (out k less);
  });
  back = λ i inside in_it. absurd (in_it (out i inside));
}

-- the links say the same by another test of the same positions
same_nearest : (owner : List ℕ) (Out Out2 : ℕ → Type 0) → ((k : ℕ) → Out k → Out2 k) → ((k : ℕ) → Out2 k → Out k) →
    (list from j : ℕ) → IsNearest owner Out list from j → IsNearest owner Out2 list from j
same_nearest owner Out Out2 forth back list from j least = record {
  upto = least.upto;
  behind = least.behind;
  inside = λ inside out. least.inside inside (back j out);
  owned = least.owned;
  least = λ k behind less same in_it. least.least k behind less same (λ out. in_it (forth k out));
}

pub same_links : (slots : ℕ) (owner : List ℕ) (Out Out2 : ℕ → Type 0) (next prev : List ℕ) →
    ((k : ℕ) → Out k → Out2 k) → ((k : ℕ) → Out2 k → Out k) →
    AreLinks slots owner Out next prev → AreLinks slots owner Out2 next prev
same_links slots owner Out Out2 next prev forth back links = record {
  next_length = links.next_length;
  prev_length = links.prev_length;
  onward = λ s inside on. same_nearest owner Out Out2 forth back (list_at owner s) (from_at owner s) (slice_index next s)
      (links.onward s inside (λ h out. on h (forth s out)));
  back = λ i inside in_it.
      (let old : LeadsTo slots owner Out (slice_index prev i) i = links.back i inside (λ out. in_it (forth i out)) in
      record {
        within = old.within;
        inside = λ h out. old.inside h (back (slice_index prev i) out);
        least = same_nearest owner Out Out2 forth back (list_at owner (slice_index prev i)) (from_at owner (slice_index prev i)) i old.least;
      });
}

-- a position that is out may have any links of its own
placed : (slots : ℕ) (owner : List ℕ) (Out : ℕ → Type 0) (next prev : List ℕ) (i after before : ℕ) → i < length owner → Out i →
    AreLinks slots owner Out next prev → AreLinks slots owner Out (set next i after) (set prev i before)
placed slots owner Out next prev i after before within out links = record {
  next_length = rw length-set links.next_length;
  prev_length = rw length-set links.prev_length;
  onward = λ s inside on.
      (let apart : s ≢ i = λ e. on (omega arith) (subst Out (sym e) out) in
      let kept : get_or (set next i after) s 0 ≡ slice_index next s = get_or-set_other next i s after 0 apart in
      rw kept (links.onward s inside on));
  back = λ j inside in_it.
      (let apart : j ≢ i = λ e. in_it (subst Out (sym e) out) in
      let kept : get_or (set prev i before) j 0 ≡ slice_index prev j = get_or-set_other prev i j before 0 apart in
      rw kept (links.back j inside in_it));
}

-- one position more, in front of its list
pub linked_more : (slots : ℕ) (owner next prev : List ℕ) (top i head after : ℕ) → top ≡ i + 1 → top ≤ length owner →
    head ≡ length owner + slice_index owner i → head < slots → after ≡ slice_index next head →
    AreLinks slots owner (λ k. k < top) next prev →
    AreLinks slots owner (λ k. k < i) (set (set next i after) head i) (set (set prev i head) after i)
linked_more slots owner next prev top i head after is_top within is_head inside is_after links =
    let written : AreLinks slots owner (λ k. k < top) (set next i after) (set prev i head) =
    placed slots owner (λ k. k < top) next prev i after head (omega arith) (omega arith) links in
    let first : IsNearest owner (λ k. k < top) (slice_index owner i) 0 after =
    let of_list : list_at owner head ≡ slice_index owner i = omega (arith, list_at-head owner head (omega arith)) in
    rw (of_list, from_at-head owner head (omega arith), ← is_after) at (links.onward head inside (λ h. absurd (omega arith))) in
    let next_is : get_or (set next i after) i 0 ≡ after = get_or-set_same next i after 0 (omega (arith, links.next_length)) in
    let prev_is : get_or (set prev i head) i 0 ≡ head = get_or-set_same prev i head 0 (omega (arith, links.prev_length)) in
    let ahead : IsNearest owner (λ k. k < i) (slice_index owner i) (i + 1) after = record {
      upto = first.upto;
      behind = elim (cases_lt after (i + 1)) [
        | inl low ↦ absurd (first.inside (omega arith) (omega arith))
        | inr high ↦ high
      ];
      inside = λ h out. first.inside h (omega arith);
      owned = first.owned;
      least = λ k behind less same in_it. first.least k (omega arith) less same (λ out. omega arith);
    } in
    let lead : LeadsTo slots owner (λ k. k < i) head i = record {
      within = inside;
      inside = λ h. absurd (omega arith);
      least = record {
        upto = omega arith;
        behind = omega (arith, from_at-head owner head (omega arith));
        inside = λ h out. omega arith;
        owned = λ h. omega (arith, list_at-head owner head (omega arith));
        least = λ k behind less same in_it. in_it less;
      };
    } in
    let linked = relinks owner (λ k. k < i) (λ k. k < top) i (omega arith) (λ out. omega arith) (omega arith) (λ k out. omega arith)
    (λ k out. elim (cases_lt k i) [ inl less ↦ inl less | inr upto ↦ inr (omega arith) ])
    slots (set next i after) (set prev i head) (omega arith) written (rw next_is ahead) (rw prev_is lead) in
    rw (next_is, prev_is) at linked
