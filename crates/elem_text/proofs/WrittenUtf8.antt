-- What is written is UTF-8, since the texts of an element are.
use Rattle.std.proofs.Common.{◌≡◌, ℕ, suc, ◌<◌, ◌≤◌, ◌+◌, List, [], ◌∷◌, ◌++◌, length, drop, get_or, sym, subst, arith, add-one, append_assoc, IsUtf8, Result, Ok, Err, OnOk}
use Rattle.std.proofs.Math.Seq.{drop-cons}
use Rattle.std.proofs.lemmas.List.{drop_all}
use Rattle.std.proofs.lemmas.Str.{IsUtf8-append, IsUtf8-nil, IsUtf8-from_ascii}
use Rattle.std.proofs.lemmas.Str.Ascii.{IsAscii-cons, IsAscii-nil}
use Rattle.std.specs.List.{flat_map}
use Rattle.elem_text.specs.Written.{escape, escaped, attr_text, text_of, start_text, end_text}
use Rattle.elem_text.specs.declared.elem.Attr.{Attr}
use Rattle.elem_text.specs.declared.elem.Elem.{Elem, out-Elem}
use Rattle.elem_text.proofs.Utf8.{utf8_apart, utf8_behind_first}
use Rattle.elem_text.proofs.Escaped.{Escape, angle, ampersand, quote, itself, is_escape}
use Rattle.elem_text.proofs.Rows.{text_parts}

-- an ASCII byte before text
ascii_before : (c : ℕ) (t : List ℕ) → c < 128 → IsUtf8 t → IsUtf8 (c ∷ t)
ascii_before c t h u = IsUtf8-append (c ∷ []) t (IsUtf8-from_ascii (c ∷ []) (IsAscii-cons c [] h IsAscii-nil)) u

-- a byte is escaped, which stands between text and text
escape_step : (b : ℕ) (e : List ℕ) → Escape b e → (f r : List ℕ) → IsUtf8 (f ++ b ∷ r) → ((g : List ℕ) → IsUtf8 (g ++ r) → IsUtf8 (g ++ escaped r)) → IsUtf8 (f ++ (e ++ escaped r))
escape_step _ _ angle f r u more =
    let p = utf8_apart f r 60 (omega arith) u in
    let rest = more [] (utf8_behind_first 60 r (omega arith) p.1) in
    IsUtf8-append f _ p.0 (ascii_before 38 _ (omega arith) (ascii_before 108 _ (omega arith) (ascii_before 116 _ (omega arith) (ascii_before 59 _ (omega arith) rest))))
escape_step _ _ ampersand f r u more =
    let p = utf8_apart f r 38 (omega arith) u in
    let rest = more [] (utf8_behind_first 38 r (omega arith) p.1) in
    IsUtf8-append f _ p.0 (ascii_before 38 _ (omega arith) (ascii_before 97 _ (omega arith) (ascii_before 109 _ (omega arith) (ascii_before 112 _ (omega arith) (ascii_before 59 _ (omega arith) rest)))))
escape_step _ _ quote f r u more =
    let p = utf8_apart f r 34 (omega arith) u in
    let rest = more [] (utf8_behind_first 34 r (omega arith) p.1) in
    IsUtf8-append f _ p.0
    (ascii_before 38 _ (omega arith) (ascii_before 113 _ (omega arith) (ascii_before 117 _ (omega arith) (ascii_before 111 _ (omega arith) (ascii_before 116 _ (omega arith) (ascii_before 59 _ (omega arith) rest))))))
escape_step _ _ (itself b h i j) f r u more =
    let P : List ℕ → Type 0 = λ x. IsUtf8 x in
    subst P (append_assoc f (b ∷ []) (escaped r)) (more (f ++ b ∷ []) (subst P (sym (append_assoc f (b ∷ []) r)) u))

escaped_from : (f r : List ℕ) → IsUtf8 (f ++ r) → IsUtf8 (f ++ escaped r)
escaped_from f [] u = u
escaped_from f (b ∷ r) u = escape_step b (escape b) (is_escape b) f r u (λ g. escaped_from g r)

pub escaped_utf8 : (t : List ℕ) → IsUtf8 t → IsUtf8 (escaped t)
escaped_utf8 t u = escaped_from [] t u

pub attr_utf8 : (a : Attr) → IsUtf8 a.name → IsUtf8 (escaped a.value) → IsUtf8 (attr_text a)
attr_utf8 a n v =
    ascii_before 32 _ (omega arith)
    (IsUtf8-append a.name _ n (ascii_before 61 _ (omega arith) (ascii_before 34 _ (omega arith) (IsUtf8-append (escaped a.value) (34 ∷ []) v (ascii_before 34 [] (omega arith) IsUtf8-nil)))))

pub start_utf8 : (e : Elem) → IsUtf8 (out-Elem e).name → IsUtf8 (flat_map attr_text (out-Elem e).attrs) → IsUtf8 (escaped (out-Elem e).text) → IsUtf8 (start_text e)
start_utf8 e n a t = ascii_before 60 _ (omega arith) (IsUtf8-append (out-Elem e).name _ n (IsUtf8-append (flat_map attr_text (out-Elem e).attrs) _ a (ascii_before 62 _ (omega arith) t)))

pub end_utf8 : (e : Elem) → IsUtf8 (out-Elem e).name → IsUtf8 (end_text e)
end_utf8 e n = ascii_before 60 _ (omega arith) (ascii_before 47 _ (omega arith) (IsUtf8-append (out-Elem e).name (62 ∷ []) n (ascii_before 62 [] (omega arith) IsUtf8-nil)))

-- what the items of a list are written as is text, if each is
pub utf8_step : {A : Type 0} (f : A → List ℕ) (l : List A) (i : ℕ) (a : A) → i < length l → a ≡ get_or l i a → IsUtf8 (f a) → IsUtf8 (flat_map f (drop (i + 1) l)) → IsUtf8 (flat_map f (drop i l))
utf8_step {A} f l i a h e u more =
    let P : List A → Type 0 = λ x. IsUtf8 (flat_map f x) in
    let Q : A → Type 0 = λ x. IsUtf8 (flat_map f (x ∷ drop (suc i) l)) in
    let R : ℕ → Type 0 = λ n. IsUtf8 (flat_map f (drop n l)) in
    subst P (sym (drop-cons l i a h)) (subst Q e (IsUtf8-append (f a) (flat_map f (drop (suc i) l)) u (subst R (add-one i) more)))

pub utf8_end : {A : Type 0} (f : A → List ℕ) (l : List A) (i : ℕ) → length l ≤ i → IsUtf8 (flat_map f (drop i l))
utf8_end {A} f l i h = let P : List A → Type 0 = λ x. IsUtf8 (flat_map f x) in subst P (sym (drop_all i l h)) IsUtf8-nil

pub whole_utf8 : (e : Elem) (kids : List Elem) → kids ≡ (out-Elem e).kids → IsUtf8 (start_text e) → IsUtf8 (flat_map text_of kids) → IsUtf8 (end_text e) → IsUtf8 (text_of e)
whole_utf8 e kids same s k t =
    let P : List ℕ → Type 0 = λ x. IsUtf8 x in
    let Q : List Elem → Type 0 = λ l. IsUtf8 (flat_map text_of l) in
    subst P (sym (text_parts e)) (IsUtf8-append (start_text e) _ s (IsUtf8-append (flat_map text_of (out-Elem e).kids) (end_text e) (subst Q same k) t))

pub on_ok : {T E : Type 0} (P : Type 0) (r : Result T E) → P → OnOk r P
on_ok P (Ok x) h = h
on_ok P (Err e) h = tt

pub on_ok_then : {T E : Type 0} (P Q : Type 0) (r : Result T E) → (P → Q) → OnOk r P → OnOk r Q
on_ok_then P Q (Ok x) f h = f h
on_ok_then P Q (Err e) f h = tt
