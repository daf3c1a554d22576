-- A text of lines is divided at its line feeds.
use Rattle.std.proofs.Common.{◌≡◌, ◌==◌, ◌-◌, ℕ, Bool, true, false, not, if◌then◌else◌, List, [], ◌∷◌, ◌++◌, length, take, append_assoc, refl, sym, ap, ◌∙◌, arith}
use Rattle.std.specs.Prelude.{slice_index}
use Rattle.std.specs.List.{All, flat_map, slice_split}
use Rattle.std.specs.Str.Lines.{lines, lines_of_parts, strip_carriage_return}
use Rattle.std.proofs.lemmas.List.Elements.{All-head, All-tail, All-weaker}
use Rattle.std.proofs.lemmas.List.Splits.{slice_split_at}
use Rattle.line_texts.specs.Written.{IsWrittenLine, ended}

off : (b : Bool) → not b ≡ true → b ≡ false
off true is = sym is
off false is = refl

split_all : (texts : List (List ℕ)) → All IsWrittenLine texts → slice_split (λ b. b == 10) (flat_map ended texts) ≡ texts ++ [] ∷ []
split_all [] are = refl
split_all (t ∷ texts) are =
    let rest = flat_map ended texts in
    let line = All-head IsWrittenLine t texts are in
    let free = All-weaker (λ b. not (b == 10) ≡ true) (λ b. (b == 10) ≡ false) (λ b is. off (b == 10) is) t line.no_feed in
    ap (slice_split (λ b. b == 10)) (append_assoc t (10 ∷ []) rest) ∙
    (slice_split_at (λ b. b == 10) t 10 rest free refl ∙ ap (λ l. t ∷ l) (split_all texts (All-tail IsWrittenLine t texts are)))

strip_same : (t : List ℕ) → IsWrittenLine t → strip_carriage_return t ≡ t
strip_same t line = by (slice_index t (length t - 1) == 13) (off (slice_index t (length t - 1) == 13) (line.no_return (length t - 1) 0 (omega (arith, ap length line.spelled))))
  where
    by : (b : Bool) → b ≡ false → (if b then take (length t - 1) t else t) ≡ t
    by true is = absurd (let bad : ⊥ = cc is in bad)
    by false is = refl

parts_same : (texts : List (List ℕ)) → All IsWrittenLine texts → lines_of_parts (texts ++ [] ∷ []) ≡ texts
parts_same [] are = refl
parts_same (t ∷ []) are = ap (λ x. x ∷ []) (strip_same t (All-head IsWrittenLine t [] are))
parts_same (t ∷ u ∷ texts) are =
    ap (λ x. x ∷ lines_of_parts ((u ∷ texts) ++ [] ∷ [])) (strip_same t (All-head IsWrittenLine t (u ∷ texts) are)) ∙
    ap (λ l. t ∷ l) (parts_same (u ∷ texts) (All-tail IsWrittenLine t (u ∷ texts) are))

pub text_parts : (texts : List (List ℕ)) → All IsWrittenLine texts → lines (flat_map ended texts) ≡ texts
text_parts texts are = ap lines_of_parts (split_all texts are) ∙ parts_same texts are
