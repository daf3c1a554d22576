-- What text stands for, its references read, is text.
use Rattle.std.proofs.Common.{◌≡◌, ℕ, zero, suc, ◌+◌, Bool, true, false, cond, List, [], ◌∷◌, ◌++◌, length, take, drop, refl, sym, ap, subst, ◌∙◌, arith, append_assoc, Option, Some, None, IsUtf8, eqb, ltb, ◌&&◌}
use Rattle.std.proofs.lemmas.Bool.{and_parts}
use Rattle.std.proofs.lemmas.Bool.Decides.{nat_tests}
use Rattle.std.proofs.lemmas.List.{drop-drop, take-append-drop}
use Rattle.std.proofs.lemmas.Str.{IsUtf8-append, IsUtf8-encode}
use Rattle.std.specs.Prelude.{codes, encode_utf8}
use Rattle.std.specs.Str.Parse.{digits_value}
use lib.Utf8.{scalar}
use Rattle.elem_text.specs.References.{begins, is_digit_of, reference, Referred, numbered, leading, at_ampersand, decoded, decoded_past}
use Rattle.elem_text.proofs.Referred.{begins_spelled}
use Rattle.elem_text.proofs.Utf8.{utf8_apart, utf8_behind, utf8_behind_first}

-- where a reference is found, it stands for a character and ends with a semicolon
data IsSound : List ℕ → Option Referred → Type 0 where
  no_reference : (b : List ℕ) → IsSound b None
  character : (b : List ℕ) (r : Referred) (front : List ℕ) → scalar r.char ≡ true → b ≡ front ++ 59 ∷ drop r.len b → IsSound b (Some r)

sound_if : (b : List ℕ) (t : Bool) (x y : Option Referred) → (t ≡ true → IsSound b x) → IsSound b y → IsSound b (cond t x y)
sound_if b true x y h k = h refl
sound_if b false x y h k = k

-- a semicolon after so many bytes
semicolon_at : (b : List ℕ) (n len : ℕ) → begins (59 ∷ []) (drop n b) ≡ true → len ≡ n + 1 → b ≡ take n b ++ 59 ∷ drop len b
semicolon_at b n len e l =
    let s : drop n b ≡ 59 ∷ drop 1 (drop n b) = begins_spelled (59 ∷ []) (drop n b) e in
    sym (take-append-drop n b) ∙ ap (λ x. take n b ++ x) (s ∙ ap (λ x. 59 ∷ x) (drop-drop 1 n b ∙ ap (λ k. drop k b) (sym l)))

number_sound : (past n c : ℕ) (b : List ℕ) (some : Bool) →
    IsSound b (cond (some && (begins (59 ∷ []) (drop n (drop past b)) && scalar c)) (Some (record { char = c; len = past + (n + 1) })) None)
number_sound past n c b some =
    sound_if b (some && (begins (59 ∷ []) (drop n (drop past b)) && scalar c)) (Some (record { char = c; len = past + (n + 1) })) None ends (no_reference b)
  where
    ends : (some && (begins (59 ∷ []) (drop n (drop past b)) && scalar c)) ≡ true → IsSound b (Some (record { char = c; len = past + (n + 1) }))
    ends e =
        let later = and_parts (begins (59 ∷ []) (drop n (drop past b))) (scalar c) (and_parts some (begins (59 ∷ []) (drop n (drop past b)) && scalar c) e).1 in
        let P : List ℕ → Type 0 = λ l. begins (59 ∷ []) l ≡ true in
        character b (record { char = c; len = past + (n + 1) }) (take (past + n) b) later.1 (semicolon_at b (past + n) (past + (n + 1)) (subst P (drop-drop n past b) later.0) (omega arith))

numbered_sound : (base past : ℕ) (b : List ℕ) → IsSound b (numbered base past (drop past b))
unfolding numbered
numbered_sound base past b =
    let digits = leading (is_digit_of base) (drop past b) in
    number_sound past (length digits) (digits_value base digits) b (ltb 0 (length digits))

-- a word before a semicolon
word_sound : (b word : List ℕ) (c : ℕ) (other : Option Referred) → scalar c ≡ true → IsSound b other →
    IsSound b (cond (begins (word ++ 59 ∷ []) b) (Some (record { char = c; len = length (word ++ 59 ∷ []) })) other)
word_sound b word c other s k = sound_if b (begins (word ++ 59 ∷ []) b) (Some (record { char = c; len = length (word ++ 59 ∷ []) })) other ends k
  where
    ends : begins (word ++ 59 ∷ []) b ≡ true → IsSound b (Some (record { char = c; len = length (word ++ 59 ∷ []) }))
    ends e = character b (record { char = c; len = length (word ++ 59 ∷ []) }) word s (begins_spelled (word ++ 59 ∷ []) b e ∙ append_assoc word (59 ∷ []) _)

reference_sound : (b : List ℕ) → IsSound b (reference b)
unfolding reference
reference_sound b =
    word_sound b (codes "lt") 60 _ refl
    (word_sound b (codes "gt") 62 _ refl
    (word_sound b (codes "amp") 38 _ refl
    (word_sound b (codes "quot") 34 _ refl
    (word_sound b (codes "apos") 39 _ refl
    (sound_if b (begins (codes "#x") b) (numbered 16 2 (drop 2 b)) _ (λ e. numbered_sound 16 2 b)
    (sound_if b (begins (codes "#") b) (numbered 10 1 (drop 1 b)) None (λ e. numbered_sound 10 1 b) (no_reference b)))))))

-- a byte stands for itself before what is text behind any text
byte_utf8 : (f : List ℕ) (x : ℕ) (b t : List ℕ) → IsUtf8 (f ++ x ∷ b) → ((g : List ℕ) → IsUtf8 (g ++ b) → IsUtf8 (g ++ t)) → IsUtf8 (f ++ x ∷ t)
byte_utf8 f x b t u more =
    let P : List ℕ → Type 0 = λ l. IsUtf8 l in
    subst P (append_assoc f (x ∷ []) t) (more (f ++ x ∷ []) (subst P (sym (append_assoc f (x ∷ []) b)) u))

-- an ampersand, and what it stands for
ampersand_utf8 : (f b : List ℕ) (r : Option Referred) (past : ℕ → List ℕ) → IsSound b r → IsUtf8 (f ++ 38 ∷ b) →
    ((n : ℕ) (g : List ℕ) → IsUtf8 (g ++ drop n b) → IsUtf8 (g ++ past n)) → IsUtf8 (f ++ at_ampersand r past)
ampersand_utf8 f _ _ past (no_reference b) u more = byte_utf8 f 38 b (past 0) u (more 0)
ampersand_utf8 f _ _ past (character b r front s e) u more =
    let p = utf8_apart f b 38 (omega arith) u in
    let P : List ℕ → Type 0 = λ l. IsUtf8 l in
    let behind : IsUtf8 (drop r.len b) = utf8_behind front (drop r.len b) 59 (omega arith) (subst P e (utf8_behind_first 38 b (omega arith) p.1)) in
    IsUtf8-append f _ p.0 (IsUtf8-append (encode_utf8 r.char) (past r.len) (IsUtf8-encode r.char s) (more r.len [] behind))

utf8_if : (f : List ℕ) (t : Bool) (x y : List ℕ) → (t ≡ true → IsUtf8 (f ++ x)) → IsUtf8 (f ++ y) → IsUtf8 (f ++ cond t x y)
utf8_if f true x y h k = h refl
utf8_if f false x y h k = k

is_ampersand : (x : ℕ) → eqb x 38 ≡ true → x ≡ 38
is_ampersand x e = grind (arith, nat_tests)

decoded_from : (n : ℕ) (b f : List ℕ) → IsUtf8 (f ++ drop n b) → IsUtf8 (f ++ decoded_past n b)
decoded_from zero [] f u = u
decoded_from (suc n) [] f u = u
decoded_from (suc n) (x ∷ b) f u = decoded_from n b f u
decoded_from zero (x ∷ b) f u =
    let P : ℕ → Type 0 = λ y. IsUtf8 (f ++ y ∷ b) in
    utf8_if f (eqb x 38) (at_ampersand (reference b) (λ n. decoded_past n b)) (x ∷ decoded_past zero b)
    (λ e. ampersand_utf8 f b (reference b) (λ n. decoded_past n b) (reference_sound b) (subst P (is_ampersand x e) u) (λ n g. decoded_from n b g))
    (byte_utf8 f x b (decoded_past zero b) u (λ g. decoded_from zero b g))

pub decoded_utf8 : (raw : List ℕ) → IsUtf8 raw → IsUtf8 (decoded raw)
decoded_utf8 raw u = decoded_from 0 raw [] u
