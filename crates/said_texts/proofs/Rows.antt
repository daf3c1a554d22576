-- The rows of a table, as lines.
use Rattle.std.proofs.Common.{◌≡◌, ◌==◌, ◌≤◌, ◌+◌, ◌/◌, ◌%◌, inl, inr, ℕ, zero, suc, Bool, true, false, cond, List, [], ◌∷◌, ◌++◌, append_assoc, refl, sym, ap, ◌∙◌, subst, arith}
use Rattle.std.specs.Prelude.{if◌then◌else◌}
use Rattle.std.specs.List.{All, AllPass}
use Rattle.std.proofs.lemmas.Bool.Decides.{nat_tests}
use Rattle.std.proofs.lemmas.List.Elements.{All-nil, All-cons}
use Rattle.net_types.specs.Words.{IsWord}
use Rattle.blif_elems.specs.Keywords.{HasDot}
use Rattle.blif_elems.specs.Statements.{Said, says_row, WordsSay}
use Rattle.blif_text.specs.Rows.{low_text, pattern_text, row_text, rows_text}
use Rattle.line_texts.specs.Written.{ended}
use Rattle.table_rows.specs.Rows.{low_of, pattern_of, words_at}
use Rattle.said_texts.specs.Statements.{row_lines}
use Rattle.said_texts.proofs.Inks.{is_ink, ink_ascii, ink_word}
use Rattle.said_texts.proofs.Lines.{SaysLine, IsSaidText, Divides, no_blank, no_text, said_append, said_line, line_says}

-- characters of rows

by_low : (P : ℕ → Type 0) → P 48 → P 49 → (index : ℕ) → P (low_of index)
by_low P off on index = by (index % 2 == 1)
  where
    by : (b : Bool) → P (if b then 49 else 48)
    by true = on
    by false = off

pattern_ink : (inputs index : ℕ) → AllPass is_ink (pattern_of inputs index)
pattern_ink zero index = All-nil (λ b. is_ink b ≡ true)
pattern_ink (suc inputs) index =
    All-cons (λ b. is_ink b ≡ true) (low_of index) (pattern_of inputs (index / 2)) (by_low (λ b. is_ink b ≡ true) refl refl index) (pattern_ink inputs (index / 2))

pattern_word : (inputs index : ℕ) → IsWord (pattern_of (suc inputs) index)
pattern_word inputs index = ink_word (pattern_of (suc inputs) index) (λ e. cc e) (ink_ascii (pattern_of (suc inputs) index) (pattern_ink (suc inputs) index))

one_word : IsWord (49 ∷ [])
one_word = ink_word (49 ∷ []) (λ e. cc e) (ink_ascii (49 ∷ []) (All-cons (λ b. is_ink b ≡ true) 49 [] refl (All-nil (λ b. is_ink b ≡ true))))

pattern_same : (inputs index : ℕ) → pattern_text inputs index ≡ pattern_of inputs index
pattern_same zero index = refl
pattern_same (suc inputs) index = ap (λ l. low_of index ∷ l) (pattern_same inputs (index / 2))

no_dot : (first : ℕ) (rest : List ℕ) → (first ≡ 46 → ⊥) → HasDot (first ∷ rest) → ⊥
no_dot first rest other dot = let is : first ≡ 46 = (let e : first ∷ rest ≡ 46 ∷ dot.0 = dot.1 in cc e) in other is

not_dot : (index : ℕ) → low_of index ≡ 46 → ⊥
not_dot index = by_low (λ b. b ≡ 46 → ⊥) (λ e. omega (arith, e)) (λ e. omega (arith, e)) index

row_says : (inputs index : ℕ) → WordsSay (words_at inputs index) (says_row (words_at inputs index))
row_says zero index = inr (no_dot 49 [] (λ e. omega (arith, e)), refl)
row_says (suc inputs) index = inr (no_dot (low_of index) (pattern_of inputs (index / 2)) (not_dot index), refl)

no_zero : (n : ℕ) → (suc n == 0) ≡ false
no_zero n = grind (arith, nat_tests)

row_wide : (inputs index : ℕ) → row_text (suc inputs) index ≡ pattern_text (suc inputs) index ++ 32 ∷ 49 ∷ 10 ∷ []
row_wide inputs index = by (suc inputs == 0) (no_zero inputs)
  where
    by : (b : Bool) → b ≡ false → (if b then 49 ∷ 10 ∷ [] else pattern_text (suc inputs) index ++ 32 ∷ 49 ∷ 10 ∷ []) ≡ pattern_text (suc inputs) index ++ 32 ∷ 49 ∷ 10 ∷ []
    by true is = absurd (let bad : ⊥ = cc is in bad)
    by false is = refl

module _ (divides : Divides) where
  row_said : (inputs index : ℕ) → IsSaidText (row_text inputs index) (says_row (words_at inputs index) ∷ [])
  row_said zero index =
      said_line (49 ∷ []) (says_row (words_at zero index))
      (line_says divides (49 ∷ []) [] [] [] 49 (says_row (words_at zero index)) one_word (All-nil IsWord) no_blank refl (λ e. omega (arith, e)) (row_says zero index))
  row_said (suc inputs) index =
      let pattern = pattern_of (suc inputs) index in
      let s = says_row (words_at (suc inputs) index) in
      let line = line_says divides pattern ((49 ∷ []) ∷ []) [] (pattern ++ 32 ∷ []) 49 s (pattern_word inputs index) (All-cons IsWord (49 ∷ []) [] one_word (All-nil IsWord)) no_blank
      (sym (append_assoc pattern (32 ∷ []) (49 ∷ []))) (λ e. omega (arith, e)) (row_says (suc inputs) index) in
      let cut : ended (pattern ++ 32 ∷ 49 ∷ []) ≡ row_text (suc inputs) index =
      append_assoc pattern (32 ∷ 49 ∷ []) (10 ∷ []) ∙ (ap (λ l. l ++ 32 ∷ 49 ∷ 10 ∷ []) (sym (pattern_same (suc inputs) index)) ∙ sym (row_wide inputs index)) in
      subst (λ t. IsSaidText t (s ∷ [])) cut (said_line (pattern ++ 32 ∷ 49 ∷ []) s line)

  pub rows_said : (inputs index : ℕ) (table : List Bool) → IsSaidText (rows_text inputs index table) (row_lines inputs index table)
  rows_said inputs index [] = no_text
  rows_said inputs index (true ∷ bits) =
      said_append (row_text inputs index) (rows_text inputs (index + 1) bits) (says_row (words_at inputs index) ∷ []) (row_lines inputs (index + 1) bits)
      (row_said inputs index) (rows_said inputs (index + 1) bits)
  rows_said inputs index (false ∷ bits) = rows_said inputs (index + 1) bits
