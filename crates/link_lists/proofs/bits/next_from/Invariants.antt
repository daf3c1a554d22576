use Rattle.std.proofs.Common.{◌≡◌, ◌<◌, ◌≤◌, ◌+◌, ◌-◌, ◌*◌, ◌/◌, ◌^◌, ℕ, length}
use Rattle.std.specs.Int.{bit_at}
use Rattle.std.specs.Prelude.{slice_index}
use Rattle.link_lists.specs.Bits.{IsIn}
use Rattle.link_lists.proofs.bits.next_from.Given as goal

abbrev pub invariant-loop-word : goal.invariant-loop-word
invariant-loop-word l = record {
  within : l.at < length l.words;
  start : l.from / 64 ≤ l.at;
  fits : l.word < 2 ^ 64;
  bits : (i : ℕ) → i < 64 → bit_at l.word i ≡ 1 → (l.from ≤ 64 * l.at + i) × (bit_at (slice_index l.words l.at) i ≡ 1);
  all : (i : ℕ) → i < 64 → l.from ≤ 64 * l.at + i → bit_at (slice_index l.words l.at) i ≡ 1 → bit_at l.word i ≡ 1;
  none : (k : ℕ) → l.from ≤ k → k < 64 * l.at → IsIn l.words k → ⊥;
}

abbrev pub decreases-loop-word : goal.decreases-loop-word
decreases-loop-word l = length l.words - l.at
