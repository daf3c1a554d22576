-- Rows say one table, and words one row.
use Rattle.std.proofs.Common.{◌≡◌, ◌<◌, inl, inr, ℕ, Bool, true, false, List, [], ◌∷◌, Some, length, get_or, refl, sym, ap, ◌∙◌, subst, arith}
use Rattle.std.proofs.lemmas.Option.{slice_get-get_or}
use Rattle.std.proofs.lemmas.List.{same_lists}
use Rattle.blif_covers.specs.Covers.{RowSaid, index_of, IsTableOf}
use Rattle.blif_covers.specs.Rows.{IsRow, AreWordsOf, output_word}
use Rattle.blif_covers.specs.Seen.{IsOnAt}
use Rattle.blif_covers.proofs.Covering.{indexed, IsIndexed}

same_bit : (a b : Bool) → ((a ≡ true) → b ≡ true) → ((b ≡ true) → a ≡ true) → a ≡ b
same_bit true b forth back = sym (forth refl)
same_bit false true forth back = back refl
same_bit false false forth back = refl

pub one_table : (inputs : ℕ) (rows : List RowSaid) (a b : List Bool) → IsTableOf inputs rows a → IsTableOf inputs rows b → a ≡ b
one_table inputs rows a b is also = same_lists a b (is.width ∙ sym also.width) (λ k d inside. same k d inside (indexed inputs k (subst (λ n. k < n) is.width inside)))
  where
    to : (s t : List Bool) (k : ℕ) (d : Bool) (values : List Bool) → IsTableOf inputs rows s → IsTableOf inputs rows t → length values ≡ inputs → index_of values ≡ k →
        k < length s → k < length t → get_or s k d ≡ true → get_or t k d ≡ true
    to s t k d values of_s of_t many at in_s in_t on =
        let here : IsOnAt s (index_of values) = subst (λ n. IsOnAt s n) (sym at) (slice_get-get_or s k d in_s ∙ ap (λ v. Some v) on) in
        let there : IsOnAt t k = subst (λ n. IsOnAt t n) at ((of_t.says values many).1 ((of_s.says values many).0 here)) in
        let e : Some (get_or t k d) ≡ Some true = sym (slice_get-get_or t k d in_t) ∙ there in
        cc

    same : (k : ℕ) (d : Bool) → k < length a → IsIndexed inputs k → get_or a k d ≡ get_or b k d
    same k d inside i =
        let in_b : k < length b = subst (λ n. k < n) (is.width ∙ sym also.width) inside in
        same_bit (get_or a k d) (get_or b k d) (to a b k d i.values is also i.many i.is inside in_b) (to b a k d i.values also is i.many i.is in_b inside)

first_of : (l : List ℕ) → ℕ
first_of [] = 0
first_of (x ∷ l) = x

apart : output_word true ≡ output_word false → ⊥
unfolding first_of
apart e = omega (arith, ap first_of e)

one_output : (a b : Bool) → output_word a ≡ output_word b → a ≡ b
one_output true true e = refl
one_output true false e = absurd (apart e)
one_output false true e = absurd (apart (sym e))
one_output false false e = refl

abbrev row_of : List ℕ → Bool → RowSaid
row_of pattern output = record { pattern = pattern; output = output }

pub one_row : (inputs : ℕ) (words : List (List ℕ)) (r s : RowSaid) → IsRow inputs words r → IsRow inputs words s → r ≡ s
one_row inputs words r s a b = go a.spelled b.spelled
  where
    go : AreWordsOf r words → AreWordsOf s words → r ≡ s
    go (inl x) (inl y) =
        let e : output_word r.output ∷ [] ≡ output_word s.output ∷ [] = sym x.1 ∙ y.1 in
        let outputs : output_word r.output ≡ output_word s.output = cc in
        ap (λ p. row_of p r.output) (x.0 ∙ sym y.0) ∙ ap (λ o. row_of s.pattern o) (one_output r.output s.output outputs)
    go (inl x) (inr y) = let e : output_word r.output ∷ [] ≡ s.pattern ∷ output_word s.output ∷ [] = sym x.1 ∙ y.1 in absurd (cc)
    go (inr x) (inl y) = let e : r.pattern ∷ output_word r.output ∷ [] ≡ output_word s.output ∷ [] = sym x.1 ∙ y.1 in absurd (cc)
    go (inr x) (inr y) =
        let e : r.pattern ∷ output_word r.output ∷ [] ≡ s.pattern ∷ output_word s.output ∷ [] = sym x.1 ∙ y.1 in
        let patterns : r.pattern ≡ s.pattern = cc in
        let outputs : output_word r.output ≡ output_word s.output = cc in
        ap (λ p. row_of p r.output) patterns ∙ ap (λ o. row_of s.pattern o) (one_output r.output s.output outputs)
