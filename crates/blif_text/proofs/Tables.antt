-- Rows and patterns, appended one by one.
use Rattle.std.proofs.Common.{◌≡◌, ◌<◌, ◌+◌, ◌-◌, ◌/◌, ℕ, suc, Bool, List, [], ◌∷◌, ◌++◌, Some, drop, append_assoc, sym, ap, ◌∙◌, arith}
use Rattle.std.specs.Prelude.{slice_get, if◌then◌else◌}
use Rattle.std.proofs.lemmas.List.{drop_more}
use Rattle.std.proofs.lemmas.Option.{slice_get_within, get_or_from_slice_get}
use Rattle.blif_text.specs.Rows.{low_text, pattern_text, row_text, rows_text}

pub pattern_next : (inputs done left : ℕ) (old new start : List ℕ) (digit : ℕ) → done < inputs → digit ≡ low_text left → new ≡ old ++ digit ∷ [] →
    old ++ pattern_text (inputs - done) left ≡ start → new ++ pattern_text (inputs - (done + 1)) (left / 2) ≡ start
pattern_next inputs done left old new start digit within is grown so_far =
    let rest = pattern_text (inputs - (done + 1)) (left / 2) in
    let count : inputs - done ≡ suc (inputs - (done + 1)) = omega (arith, within) in
    let cut : pattern_text (inputs - done) left ≡ low_text left ∷ rest = ap (λ n. pattern_text n left) count in
    ap (λ l. l ++ rest) grown ∙ (append_assoc old (digit ∷ []) rest ∙ (ap (λ d. old ++ d ∷ rest) is ∙ (ap (λ l. old ++ l) (sym cut) ∙ so_far)))

pub rows_next : (inputs index : ℕ) (table : List Bool) (bit : Bool) (old new start : List ℕ) → slice_get table index ≡ Some bit →
    new ≡ old ++ (if bit then row_text inputs index else []) → old ++ rows_text inputs index (drop index table) ≡ start →
    new ++ rows_text inputs (index + 1) (drop (index + 1) table) ≡ start
rows_next inputs index table bit old new start at grown so_far =
    let rest = rows_text inputs (index + 1) (drop (index + 1) table) in
    let here : List ℕ = if bit then row_text inputs index else [] in
    let one : drop index table ≡ bit ∷ drop (index + 1) table =
    drop_more table index bit (slice_get_within table index bit at) ∙ ap (λ b. b ∷ drop (index + 1) table) (get_or_from_slice_get table index bit bit at) in
    let cut : rows_text inputs index (drop index table) ≡ here ++ rest = ap (rows_text inputs index) one in
    ap (λ l. l ++ rest) grown ∙ (append_assoc old here rest ∙ (ap (λ l. old ++ l) (sym cut) ∙ so_far))
