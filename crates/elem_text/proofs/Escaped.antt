-- Escaped text: what it lacks, and that it stands for the text.
use Rattle.std.proofs.Common.{◌≡◌, ℕ, Bool, true, false, List, [], ◌∷◌, ◌++◌, refl, sym, ap, subst, ◌∙◌, arith, eqb}
use Rattle.std.proofs.lemmas.Bool.Decides.{nat_tests}
use Rattle.std.proofs.lemmas.Str.{encode_ascii}
use Rattle.std.specs.Prelude.{codes}
use Rattle.elem_text.specs.Bytes.{AreAll, is_not}
use Rattle.elem_text.specs.References.{decoded}
use Rattle.elem_text.specs.Written.{escape, escaped}
use Rattle.elem_text.proofs.Spans.{is_not_other}
use Rattle.elem_text.proofs.Numbered.{ref1, ref3, ref4}
use Rattle.elem_text.proofs.Flawed.{all_append}

pub data Escape : ℕ → List ℕ → Type 0 where
  angle : Escape 60 (codes "&lt;")
  ampersand : Escape 38 (codes "&amp;")
  quote : Escape 34 (codes "&quot;")
  itself : (b : ℕ) → (b ≡ 60 → ⊥) → (b ≡ 38 → ⊥) → (b ≡ 34 → ⊥) → Escape b (b ∷ [])

pub is_escape : (b : ℕ) → Escape b (escape b)
is_escape b = by_tests (eqb b 60) (eqb b 38) (eqb b 34) refl refl refl
  where
    is : (n : ℕ) → eqb b n ≡ true → b ≡ n
    is n e = grind (arith, nat_tests)

    is_no : (n : ℕ) → eqb b n ≡ false → b ≡ n → ⊥
    is_no n e f = grind (arith, nat_tests)

    by_tests : (s t u : Bool) → eqb b 60 ≡ s → eqb b 38 ≡ t → eqb b 34 ≡ u → Escape b (escape b)
    by_tests true t u e f g = let Q : ℕ → Type 0 = λ x. Escape x (escape x) in subst Q (sym (is 60 e)) angle
    by_tests false true u e f g = let Q : ℕ → Type 0 = λ x. Escape x (escape x) in subst Q (sym (is 38 f)) ampersand
    by_tests false false true e f g = let Q : ℕ → Type 0 = λ x. Escape x (escape x) in subst Q (sym (is 34 g)) quote
    by_tests false false false e f g = rw (e, f, g) (itself b (is_no 60 e) (is_no 38 f) (is_no 34 g))

decoded_lt : (rest : List ℕ) → decoded (38 ∷ 108 ∷ 116 ∷ 59 ∷ rest) ≡ 60 ∷ decoded rest
decoded_lt rest = rw (ref1 (108 ∷ 116 ∷ 59 ∷ rest) refl) (ap (λ l. l ++ decoded rest) (encode_ascii 60 (omega arith)))

decoded_amp : (rest : List ℕ) → decoded (38 ∷ 97 ∷ 109 ∷ 112 ∷ 59 ∷ rest) ≡ 38 ∷ decoded rest
decoded_amp rest = rw (ref3 (97 ∷ 109 ∷ 112 ∷ 59 ∷ rest) refl refl refl) (ap (λ l. l ++ decoded rest) (encode_ascii 38 (omega arith)))

decoded_quot : (rest : List ℕ) → decoded (38 ∷ 113 ∷ 117 ∷ 111 ∷ 116 ∷ 59 ∷ rest) ≡ 34 ∷ decoded rest
decoded_quot rest = rw (ref4 (113 ∷ 117 ∷ 111 ∷ 116 ∷ 59 ∷ rest) refl refl refl refl) (ap (λ l. l ++ decoded rest) (encode_ascii 34 (omega arith)))

decoded_escape : (b : ℕ) (e rest : List ℕ) → Escape b e → decoded (e ++ rest) ≡ b ∷ decoded rest
decoded_escape _ _ rest angle = decoded_lt rest
decoded_escape _ _ rest ampersand = decoded_amp rest
decoded_escape _ _ rest quote = decoded_quot rest
decoded_escape _ _ rest (itself b h i j) = rw (is_false b i) refl
  where
    is_false : (b : ℕ) → (b ≡ 38 → ⊥) → eqb b 38 ≡ false
    is_false b i = grind (arith, nat_tests)

pub decoded_escaped : (t : List ℕ) → decoded (escaped t) ≡ t
decoded_escaped [] = refl
decoded_escaped (b ∷ t) = decoded_escape b (escape b) (escaped t) (is_escape b) ∙ ap (λ l. b ∷ l) (decoded_escaped t)

no_angle : (b : ℕ) (e : List ℕ) → Escape b e → AreAll (is_not 60) e
no_angle _ _ angle = (refl, (refl, (refl, (refl, tt))))
no_angle _ _ ampersand = (refl, (refl, (refl, (refl, (refl, tt)))))
no_angle _ _ quote = (refl, (refl, (refl, (refl, (refl, (refl, tt))))))
no_angle _ _ (itself b h i j) = (is_not_other 60 b h, tt)

no_quote : (b : ℕ) (e : List ℕ) → Escape b e → AreAll (is_not 34) e
no_quote _ _ angle = (refl, (refl, (refl, (refl, tt))))
no_quote _ _ ampersand = (refl, (refl, (refl, (refl, (refl, tt)))))
no_quote _ _ quote = (refl, (refl, (refl, (refl, (refl, (refl, tt))))))
no_quote _ _ (itself b h i j) = (is_not_other 34 b j, tt)

pub escaped_no_angle : (t : List ℕ) → AreAll (is_not 60) (escaped t)
escaped_no_angle [] = tt
escaped_no_angle (b ∷ t) = all_append (is_not 60) (escape b) (escaped t) (no_angle b (escape b) (is_escape b)) (escaped_no_angle t)

pub escaped_no_quote : (t : List ℕ) → AreAll (is_not 34) (escaped t)
escaped_no_quote [] = tt
escaped_no_quote (b ∷ t) = all_append (is_not 34) (escape b) (escaped t) (no_quote b (escape b) (is_escape b)) (escaped_no_quote t)

escape_some : (b : ℕ) (e rest : List ℕ) → Escape b e → e ++ rest ≡ [] → ⊥
escape_some _ _ rest angle f = cc
escape_some _ _ rest ampersand f = cc
escape_some _ _ rest quote f = cc
escape_some _ _ rest (itself b h i j) f = cc

pub escaped_some : (b : ℕ) (t : List ℕ) → escaped (b ∷ t) ≡ [] → ⊥
escaped_some b t e = escape_some b (escape b) (escaped t) (is_escape b) e
