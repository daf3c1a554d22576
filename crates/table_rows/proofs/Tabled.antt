-- The rows of a table say it.
use Rattle.std.proofs.Common.{◌≡◌, ◌<◌, ◌+◌, ◌/◌, ◌%◌, ◌^◌, ◌⊎◌, ℕ, zero, suc, Bool, true, false, if◌then◌else◌, List, [], ◌∷◌, Some, length, slice_get, refl, sym, ap, ◌∙◌, subst, inl, inr, arith}
use Rattle.std.specs.List.{AllPass}
use Rattle.std.proofs.lemmas.Bool.{true≢false}
use Rattle.std.proofs.lemmas.Option.{slice_get_within}
use Rattle.vtr_base.specs.Lists.{Has}
use Rattle.blif_covers.specs.Covers.{RowSaid, StandsFor, Covers, IsLeftOn, IsOn, bit_of, index_of, IsTableOf}
use Rattle.blif_covers.specs.Rows.{IsRow, is_literal}
use Rattle.table_rows.specs.Rows.{low_of, pattern_of, row_at, words_at, rows_from}

-- a character and the lowest bit

low_on : (index : ℕ) → index % 2 ≡ 1 → low_of index ≡ 49
low_on index on = rw on refl

low_off : (index : ℕ) → index % 2 ≡ 0 → low_of index ≡ 48
low_off index off = rw off refl

low_cases : (index : ℕ) → (index % 2 ≡ 1) ⊎ (index % 2 ≡ 0)
low_cases index = by (index % 2) (omega arith)
  where
    by : (n : ℕ) → n < 2 → (n ≡ 1) ⊎ (n ≡ 0)
    by zero low = inr refl
    by (suc zero) low = inl refl
    by (suc (suc n)) low = absurd (omega (arith, low))

stands_low : (index : ℕ) (value : Bool) → StandsFor (low_of index) value → bit_of value ≡ index % 2
stands_low index value stands = by (low_cases index)
  where
    on : (byte : ℕ) (v : Bool) → byte ≡ 49 → StandsFor byte v → bit_of v ≡ 1
    on byte v is (inl dash) = absurd (omega (arith, is, dash))
    on byte v is (inr (inl off)) = absurd (omega (arith, is, off.0))
    on byte v is (inr (inr here)) = ap bit_of here.1

    off : (byte : ℕ) (v : Bool) → byte ≡ 48 → StandsFor byte v → bit_of v ≡ 0
    off byte v is (inl dash) = absurd (omega (arith, is, dash))
    off byte v is (inr (inl here)) = ap bit_of here.1
    off byte v is (inr (inr on)) = absurd (omega (arith, is, on.0))

    by : (index % 2 ≡ 1) ⊎ (index % 2 ≡ 0) → bit_of value ≡ index % 2
    by (inl is) = on (low_of index) value (low_on index is) stands ∙ sym is
    by (inr is) = off (low_of index) value (low_off index is) stands ∙ sym is

low_stands : (index : ℕ) (value : Bool) → bit_of value ≡ index % 2 → StandsFor (low_of index) value
low_stands index true is = inr (inr (low_on index (sym is), refl))
low_stands index false is = inr (inl (low_off index (sym is), refl))

-- a row covers exactly the values with its index

covered_index : (inputs index : ℕ) (values : List Bool) → index < 2 ^ inputs → Covers (pattern_of inputs index) values → index_of values ≡ index
covered_index zero index [] low covers = omega (arith, low)
covered_index zero index (v ∷ vs) low covers = absurd covers
covered_index (suc inputs) index [] low covers = absurd covers
covered_index (suc inputs) index (v ∷ vs) low covers =
    let here = stands_low index v covers.0 in
    let rest = covered_index inputs (index / 2) vs (omega (arith, low)) covers.1 in
    omega (arith, here, rest)

index_covered : (inputs index : ℕ) (values : List Bool) → length values ≡ inputs → index_of values ≡ index → Covers (pattern_of inputs index) values
index_covered zero index [] long is = tt
index_covered zero index (v ∷ vs) long is = absurd (omega (arith, long))
index_covered (suc inputs) index [] long is = absurd (omega (arith, long))
index_covered (suc inputs) index (v ∷ vs) long is =
    let small = bit_small v in
    let low : bit_of v ≡ index % 2 = omega (arith, is, small) in
    let high : index_of vs ≡ index / 2 = omega (arith, is, small) in
    (low_stands index v low, index_covered inputs (index / 2) vs (omega (arith, long)) high)
  where
    bit_small : (b : Bool) → bit_of b < 2
    bit_small true = omega arith
    bit_small false = omega arith

-- what the rows are

pub record IsRowFrom (inputs index : ℕ) (bits : List Bool) (r : RowSaid) : Type 0 where
  pub place : ℕ
  pub on : slice_get bits place ≡ Some true
  pub is : r ≡ row_at inputs (index + place)

from_rows : (inputs index : ℕ) (bits : List Bool) (r : RowSaid) → Has (rows_from inputs index bits) r → IsRowFrom inputs index bits r
from_rows inputs index [] r has = absurd has
from_rows inputs index (bit ∷ bits) r has = by bit has (λ h. from_rows inputs (index + 1) bits r h)
  where
    later : (b : Bool) → IsRowFrom inputs (index + 1) bits r → IsRowFrom inputs index (b ∷ bits) r
    later b f =
        let same : (index + 1) + f.place ≡ index + suc f.place = omega arith in
        record { place = suc f.place; on = f.on; is = f.is ∙ ap (row_at inputs) same }

    by : (b : Bool) → Has (if b then row_at inputs index ∷ rows_from inputs (index + 1) bits else rows_from inputs (index + 1) bits) r →
        (Has (rows_from inputs (index + 1) bits) r → IsRowFrom inputs (index + 1) bits r) → IsRowFrom inputs index (b ∷ bits) r
    by true (inl is) rest = let same : index ≡ index + 0 = omega arith in record { place = 0; on = refl; is = is ∙ ap (row_at inputs) same }
    by true (inr h) rest = later true (rest h)
    by false h rest = later false (rest h)

has_row : (inputs index : ℕ) (bits : List Bool) (place number : ℕ) → slice_get bits place ≡ Some true → number ≡ index + place →
    Has (rows_from inputs index bits) (row_at inputs number)
has_row inputs index [] place number on is = absurd (cc)
has_row inputs index (true ∷ bits) zero number on is = let same : number ≡ index = omega (arith, is) in inl (ap (row_at inputs) same)
has_row inputs index (false ∷ bits) zero number on is = absurd (cc)
has_row inputs index (true ∷ bits) (suc place) number on is = inr (has_row inputs (index + 1) bits place number on (omega (arith, is)))
has_row inputs index (false ∷ bits) (suc place) number on is = has_row inputs (index + 1) bits place number on (omega (arith, is))

pub outputs_on : (inputs index : ℕ) (bits : List Bool) (r : RowSaid) → Has (rows_from inputs index bits) r → r.output ≡ true
outputs_on inputs index bits r has = ap (λ (s : RowSaid). s.output) (from_rows inputs index bits r has).is

-- rows with output 1 aren't all with output 0
none_left : (rows : List RowSaid) (values : List Bool) → ((r : RowSaid) → Has rows r → r.output ≡ true) → IsLeftOn rows values → ⊥
none_left [] values on left = left.0 refl
none_left (r ∷ rows) values on left = true≢false (sym (on r (inl refl)) ∙ left.1 0 r (omega arith))

pub says_table : (inputs : ℕ) (table : List Bool) → length table ≡ 2 ^ inputs → IsTableOf inputs (rows_from inputs 0 table) table
says_table inputs table long = record { width = long; says = λ values wide. (forth values wide, back values) }
  where
    forth : (values : List Bool) → length values ≡ inputs → slice_get table (index_of values) ≡ Some true → IsOn (rows_from inputs 0 table) values
    forth values wide on =
        inl (row_at inputs (index_of values), has_row inputs 0 table (index_of values) (index_of values) on (omega arith), refl, index_covered inputs (index_of values) values wide refl)

    covered : (values : List Bool) (r : RowSaid) → Covers r.pattern values → IsRowFrom inputs 0 table r → slice_get table (index_of values) ≡ Some true
    covered values r covers f =
        let number : 0 + f.place ≡ f.place = omega arith in
        let here = subst (λ (s : RowSaid). Covers s.pattern values) (f.is ∙ ap (row_at inputs) number) covers in
        let low = slice_get_within table f.place true f.on in
        let same = covered_index inputs f.place values (omega (arith, low, long)) here in
        ap (λ (k : ℕ). slice_get table k) same ∙ f.on

    back : (values : List Bool) → IsOn (rows_from inputs 0 table) values → slice_get table (index_of values) ≡ Some true
    back values (inl c) = covered values c.0 c.3 (from_rows inputs 0 table c.0 c.1)
    back values (inr left) = absurd (none_left (rows_from inputs 0 table) values (outputs_on inputs 0 table) left)

-- the words of a row

long_pattern : (inputs index : ℕ) → length (pattern_of inputs index) ≡ inputs
long_pattern zero index = refl
long_pattern (suc inputs) index = ap suc (long_pattern inputs (index / 2))

low_literal : (index : ℕ) → is_literal (low_of index) ≡ true
low_literal index = by (low_cases index)
  where
    by : (index % 2 ≡ 1) ⊎ (index % 2 ≡ 0) → is_literal (low_of index) ≡ true
    by (inl on) = rw on refl
    by (inr off) = rw off refl

literals : (inputs index : ℕ) → AllPass is_literal (pattern_of inputs index)
literals zero index k d low = absurd (omega (arith, low))
literals (suc inputs) index zero d low = low_literal index
literals (suc inputs) index (suc k) d low = literals inputs (index / 2) k d (omega (arith, low))

pub are_row : (inputs index : ℕ) → IsRow inputs (words_at inputs index) (row_at inputs index)
are_row zero index = record { width = refl; literals = literals zero index; spelled = inl (refl, refl) }
are_row (suc inputs) index = record {
  width = long_pattern (suc inputs) index;
  literals = literals (suc inputs) index;
  spelled = inr (λ none. (let long = ap (λ (xs : List ℕ). length xs) none in absurd (omega (arith, long))), refl);
}
