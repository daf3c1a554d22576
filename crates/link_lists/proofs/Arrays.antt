-- What is written in the arrays of chains, and what the slots that they stand for lead to.
use Rattle.std.proofs.Common.{◌≡◌, ◌<◌, ◌≤◌, ◌+◌, ◌-◌, inl, inr, ℕ, List, ◌++◌, length, map, min, set, refl, sym, ap, ◌∙◌, arith}
use Rattle.std.specs.Prelude.{slice_index}
use Rattle.std.proofs.lemmas.List.{length-set, length-map, map-set, get_or-map, set-append_left, set-append_right, get_or-append-add, get_or-append_right, get_or_append_left, get_or_default, same_lists}
use Rattle.std.proofs.lemmas.Bool.{cases_lt, cond-true, cond-false, lt-ltb, le-ltb}
use Rattle.link_lists.specs.Arrays.{slot_of, written_as, AreWritten}

pub slot_of-position : (positions chain before : ℕ) → before < positions → slot_of positions chain before ≡ before
unfolding slot_of
slot_of-position positions chain before h = cond-true _ _ _ (lt-ltb before positions h)

pub slot_of-head : (positions chain before : ℕ) → positions ≤ before → slot_of positions chain before ≡ positions + chain
unfolding slot_of
slot_of-head positions chain before h = cond-false _ _ _ (le-ltb before positions h)

-- a slot of a chain, as it is written there, stands for itself
pub slot_of-written : (positions chain slot : ℕ) → (positions ≤ slot → slot ≡ positions + chain) →
    slot_of positions chain (written_as positions slot) ≡ slot
slot_of-written positions chain slot head = elim (cases_lt slot positions) [
  | inl position ↦
      (let same : min slot positions ≡ slot = omega arith in
      rw same (slot_of-position positions chain slot position))
  | inr past ↦
      (let same : min slot positions ≡ positions = omega arith in
      rw same (slot_of-head positions chain positions (omega arith) ∙ sym (head past)))
]

-- what the slots lead to, in one array and in the other
pub next_read : (next firsts : List ℕ) (i : ℕ) → i < length next → slice_index (next ++ firsts) i ≡ slice_index next i
next_read next firsts i inside = get_or_append_left next firsts 0 i inside

pub first_read : (next firsts : List ℕ) (n chain : ℕ) → length next ≡ n → slice_index (next ++ firsts) (n + chain) ≡ slice_index firsts chain
first_read next firsts n chain size = rw (← size) (get_or-append-add next firsts chain 0)

pub next_set : (next firsts : List ℕ) (i x : ℕ) → i < length next → set (next ++ firsts) i x ≡ set next i x ++ firsts
next_set next firsts i x inside = set-append_left next firsts i x inside

pub first_set : (next firsts : List ℕ) (n chain x : ℕ) → length next ≡ n → set (next ++ firsts) (n + chain) x ≡ next ++ set firsts chain x
first_set next firsts n chain x size =
    let at : n + chain - n ≡ chain = omega arith in
    set-append_right next firsts n (n + chain) x size (omega arith) ∙ ap (λ k. next ++ set firsts k x) at

-- a position that a chain begins with now
pub put_first : (next firsts : List ℕ) (n chain i after : ℕ) → length next ≡ n → i < n →
    set (set (next ++ firsts) i after) (n + chain) i ≡ set next i after ++ set firsts chain i
put_first next firsts n chain i after size within =
    ap (λ slots. set slots (n + chain) i) (next_set next firsts i after (omega arith))
    ∙ first_set (set next i after) firsts n chain i (length-set next i after ∙ size)

module _ (positions : ℕ) (next prev places : List ℕ) (written : AreWritten positions next prev places) where
  pub prev_length : length prev ≡ length places
  prev_length = ap length written.before ∙ length-map places (written_as positions)

  pub prev_read : (i : ℕ) → i < length places → slice_index prev i ≡ written_as positions (slice_index places i)
  prev_read i inside = ap (λ xs. slice_index xs i) written.before ∙ get_or-map (written_as positions) places i 0 0 inside

  -- one slot is written elsewhere
  pub one_written : (next' : List ℕ) (a slot x : ℕ) → length next' ≡ positions → x ≡ written_as positions slot →
      AreWritten positions next' (set prev a x) (set places a slot)
  one_written next' a slot x size is = record {
    next_length = size;
    before = ap (λ xs. set xs a x) written.before ∙ ap (λ y. set (map (written_as positions) places) a y) is
        ∙ sym (map-set (written_as positions) places a slot);
  }

-- a position that its chain begins with, and what follows it
pub first_written : (positions : ℕ) (next prev places next' : List ℕ) (i chain after : ℕ) → AreWritten positions next prev places →
    length next' ≡ positions → i < positions →
    AreWritten positions next' (set (set prev i positions) after i) (set (set places i (positions + chain)) after i)
first_written positions next prev places next' i chain after written size within =
    let once = one_written positions next prev places written next' i (positions + chain) positions size (omega arith) in
    one_written positions next' (set prev i positions) (set places i (positions + chain)) once next' after i i size (omega arith)

-- where each place holds the end, it is written so
pub none_written : (positions : ℕ) (next prev : List ℕ) → length next ≡ positions →
    ((k : ℕ) → k < length prev → slice_index prev k ≡ positions) → AreWritten positions next prev prev
none_written positions next prev size ends = record {
  next_length = size;
  before = same_lists prev (map (written_as positions) prev) (sym (length-map prev (written_as positions)))
      (λ k d h.
      (let is : slice_index prev k ≡ positions = ends k h in
      let same : slice_index prev k ≡ written_as positions (slice_index prev k) = omega arith in
      get_or_default prev k d 0 h ∙ same ∙ sym (get_or-map (written_as positions) prev k 0 d h)));
}

-- what both arrays hold everywhere, each slot does
pub all_slots : (next firsts : List ℕ) (x : ℕ) → ((k : ℕ) → k < length next → slice_index next k ≡ x) →
    ((k : ℕ) → k < length firsts → slice_index firsts k ≡ x) → (s : ℕ) → s < length next + length firsts → slice_index (next ++ firsts) s ≡ x
all_slots next firsts x each first s inside = elim (cases_lt s (length next)) [
  | inl position ↦ next_read next firsts s position ∙ each s position
  | inr head ↦ get_or-append_right next firsts (length next) s 0 refl head ∙ first (s - length next) (omega arith)
]
