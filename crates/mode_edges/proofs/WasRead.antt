-- What was read is a reading.
use Rattle.std.proofs.Common.{◌≡◌, inl, inr, ℕ, min, max, List, [], ◌∷◌, ◌++◌, Some, refl, ◌∙◌, ap, arith}
use Rattle.mode_edges.specs.declared.word.Ends.{Ends}
use Rattle.mode_edges.specs.PinWords.{IsRangeOf}
use Rattle.mode_edges.specs.Readers.{IsCut, ReadsNumber, ReadsRange, ReadsPart}
use Rattle.mode_edges.proofs.OneReading.{ends}

pub reads_alone : (text : List ℕ) (v : ℕ) → ReadsNumber text v → ReadsRange text (ends v v)
reads_alone text v (n, digits, held) = (ends n n, inl (digits, refl), (omega arith, held, held))

pub reads_pair : (text one other : List ℕ) (m l low high : ℕ) → IsCut text 58 one other → ReadsNumber one m → ReadsNumber other l →
    low ≡ min m l → high ≡ max m l → ReadsRange text (ends low high)
reads_pair text one other m l low high cut (m', digits_m, held_m) (l', digits_l, held_l) is_low is_high =
    let range : IsRangeOf text (min m' l') (max m' l') = record {
      one = one;
      other = other;
      m = m';
      l = l';
      spelled = cut.spelled;
      reads_m = digits_m;
      reads_l = digits_l;
      is_lo = refl;
      is_hi = refl;
    } in
    (ends (min m' l') (max m' l'), inr range, (omega arith, omega arith, omega arith))

pub reads_part : (text name behind inside : List ℕ) (ends : Ends) → IsCut text 91 name behind → behind ≡ inside ++ 93 ∷ [] → ReadsRange inside ends →
    ReadsPart text name (Some ends)
reads_part text name behind inside ends cut closes (range, is, stands) =
    (Some range, (inside, cut.spelled ∙ ap (λ (b : List ℕ). name ++ 91 ∷ b) closes, cut.lacks, is), stands)
