-- How set bits are kept: the bytes of all names one after the other, and for each bit the part of
-- them that is its name.
use Rattle.std.specs.Prelude.{◌≤◌, ◌+◌, ℕ, Bool, List, [], ◌∷◌, slice_range, if◌then◌else◌}
use Rattle.fasm_text.specs.declared.set_bits.KeptBit.{KeptBit}
use Rattle.fasm_text.specs.Sets.{NamedBit}

-- each name lies in so many bytes
abbrev pub AreInside : ℕ → List KeptBit → Type 0
AreInside count [] = Unit {0}
AreInside count (k ∷ ks) = (k.start ≤ k.end) × (k.end ≤ count) × AreInside count ks

abbrev pub named : List ℕ → KeptBit → NamedBit
named names k = record { name = slice_range names k.start k.end; bit = k.bit }

-- the bits from number n on that are on, kept under one name
abbrev pub kept_from : ℕ → ℕ → ℕ → List Bool → List KeptBit
kept_from start end n [] = []
kept_from start end n (on ∷ bits) =
    if on then record { start = start; end = end; bit = n } ∷ kept_from start end (n + 1) bits
    else kept_from start end (n + 1) bits
