-- UTF-8 text may be cut before and behind an ASCII byte.
use Rattle.std.proofs.Common.{◌≡◌, ℕ, zero, suc, ◌<◌, Bool, true, false, List, [], ◌∷◌, ◌++◌, length, refl, sym, ap, subst, ◌∙◌, arith, length-append, append-nil, IsUtf8, IsAscii, ⊎_elim}
use Rattle.std.proofs.lemmas.Bool.Decides.{nat_tests}
use Rattle.elem_text.specs.Bytes.{IsSpan, IsNamed, AreAll, Stops, is_not, is_white, is_letter, is_name_byte}
use lib.Utf8
use Rattle.elem_text.specs.Grammar.{IsAttr, IsQuoted, IsEndTag, IsComment, IsInstruction, tail_of}
use Rattle.elem_text.proofs.Comments.{comment_ends, instruction_ends}
use Rattle.std.proofs.lemmas.List.{take_at, drop_at, get_or_at}
use Rattle.std.proofs.lemmas.Str.{IsUtf8-take, IsUtf8-drop, IsUtf8-nil, IsUtf8-from_ascii, IsCharBoundary-before_ascii, IsCharBoundary-after_ascii, IsUtf8-past_char}

pub utf8_apart : (f r : List ℕ) (c : ℕ) → c < 128 → IsUtf8 (f ++ c ∷ r) → IsUtf8 f × IsUtf8 (c ∷ r)
utf8_apart f r c h u =
    let at = IsCharBoundary-before_ascii (f ++ c ∷ r) (length f) (omega (arith, length-append f (c ∷ r)))
    (let P : ℕ → Type 0 = λ n. n < 128 in subst P (sym (get_or_at f c r 0 (length f) refl)) h) in (
      let P : List ℕ → Type 0 = λ x. IsUtf8 x in subst P (take_at f (c ∷ r) (length f) refl) (IsUtf8-take (f ++ c ∷ r) (length f) u at),
      let P : List ℕ → Type 0 = λ x. IsUtf8 x in subst P (drop_at f (c ∷ r) (length f) refl) (IsUtf8-drop (f ++ c ∷ r) (length f) u at),
    )

pub utf8_behind_first : (c : ℕ) (r : List ℕ) → c < 128 → IsUtf8 (c ∷ r) → IsUtf8 r
utf8_behind_first c r h u = IsUtf8-drop (c ∷ r) 1 u (IsCharBoundary-after_ascii (c ∷ r) 0 u (omega arith) h)

pub utf8_behind : (f r : List ℕ) (c : ℕ) → c < 128 → IsUtf8 (f ++ c ∷ r) → IsUtf8 r
utf8_behind f r c h u = utf8_behind_first c r h (utf8_apart f r c h u).1

-- text up to an ASCII byte, and what begins with it
pub until_utf8 : (stop : ℕ) (b f r : List ℕ) → stop < 128 → IsSpan (is_not stop) b f r → IsUtf8 b → IsUtf8 f × IsUtf8 r
until_utf8 stop b f r h s u = parts f r s.stops (let P : List ℕ → Type 0 = λ x. IsUtf8 x in subst P s.spelled u)
  where
    is_stop : (x : ℕ) → is_not stop x ≡ false → x ≡ stop
    is_stop x e = grind (arith, nat_tests)

    parts : (f r : List ℕ) → Stops (is_not stop) r → IsUtf8 (f ++ r) → IsUtf8 f × IsUtf8 r
    parts f [] s u = (let P : List ℕ → Type 0 = λ x. IsUtf8 x in subst P (append-nil f) u, IsUtf8-nil)
    parts f (x ∷ r) s u = utf8_apart f r x (omega (arith, is_stop x s)) u

-- text behind ASCII bytes, and those bytes
pub span_utf8 : (p : ℕ → Bool) → ((x : ℕ) → p x ≡ true → x < 128) → (b f r : List ℕ) → IsSpan p b f r → IsUtf8 b → IsUtf8 f × IsUtf8 r
span_utf8 p small b f r s u = (IsUtf8-from_ascii f (ascii f s.all), behind f s.all (let P : List ℕ → Type 0 = λ x. IsUtf8 x in subst P s.spelled u))
  where
    ascii : (f : List ℕ) → AreAll p f → IsAscii f
    ascii [] a i = omega arith
    ascii (x ∷ f) a zero = small x a.0
    ascii (x ∷ f) a (suc i) = ascii f a.1 i

    behind : (f : List ℕ) → AreAll p f → IsUtf8 (f ++ r) → IsUtf8 r
    behind [] a u = u
    behind (x ∷ f) a u = behind f a.1 (utf8_behind_first x (f ++ r) (small x a.0) u)

pub white_small : (x : ℕ) → is_white x ≡ true → x < 128
unfolding is_white
white_small x e = grind (arith, nat_tests)

pub name_small : (x : ℕ) → is_name_byte x ≡ true → x < 128
unfolding is_name_byte is_letter
name_small x e = grind (arith, nat_tests)

pub named_utf8 : (b n r : List ℕ) → IsNamed b n r → IsUtf8 b → IsUtf8 n × IsUtf8 r
named_utf8 b n r s u = span_utf8 is_name_byte name_small b n r s.span u

pub white_utf8 : (b f r : List ℕ) → IsSpan is_white b f r → IsUtf8 b → IsUtf8 r
white_utf8 b f r s u = (span_utf8 is_white white_small b f r s u).1

pub quoted_utf8 : (b raw after : List ℕ) → IsQuoted b raw after → IsUtf8 b → IsUtf8 raw × IsUtf8 after
quoted_utf8 b raw after q u =
    let small : q.quote < 128 = ⊎_elim (λ e. omega (arith, e)) (λ e. omega (arith, e)) q.is_quote in
    let inside : IsUtf8 q.inside = utf8_behind_first q.quote q.inside small (let P : List ℕ → Type 0 = λ x. IsUtf8 x in subst P q.mark u) in
    let parts = until_utf8 q.quote q.inside raw (q.quote ∷ after) small q.span inside in
    (parts.0, utf8_behind_first q.quote after small parts.1)

-- the parts of an attribute of a text are texts
pub attr_utf8 : (b n raw after : List ℕ) → IsAttr b n raw after → IsUtf8 b → IsUtf8 n × IsUtf8 raw × IsUtf8 after
attr_utf8 b n raw after a u =
    let named = named_utf8 b n a.at_left a.named u in
    let at_right = utf8_behind_first 61 a.at_right (omega arith) (white_utf8 a.at_left a.left (61 ∷ a.at_right) a.before_sign named.1) in
    let at_quote = white_utf8 a.at_right a.right a.at_quote a.behind_sign at_right in
    let quoted = quoted_utf8 a.at_quote raw after a.quoted at_quote in
    (named.0, quoted.0, quoted.1)

pub tail_utf8 : (empty : Bool) (r rest : List ℕ) → r ≡ tail_of empty rest → IsUtf8 r → IsUtf8 rest
tail_utf8 false r rest e u = utf8_behind_first 62 rest (omega arith) (let P : List ℕ → Type 0 = λ x. IsUtf8 x in subst P e u)
tail_utf8 true r rest e u = utf8_behind (47 ∷ []) rest 62 (omega arith) (let P : List ℕ → Type 0 = λ x. IsUtf8 x in subst P e u)

pub end_utf8 : (x n rest : List ℕ) → IsEndTag (60 ∷ 47 ∷ x) n rest → IsUtf8 x → IsUtf8 rest
end_utf8 x n rest e u =
    let i : x ≡ e.inside = cc in
    let P : List ℕ → Type 0 = λ l. IsUtf8 l in
    utf8_behind_first 62 rest (omega arith) (white_utf8 e.behind e.gap (62 ∷ rest) e.white (named_utf8 e.inside n e.behind e.named (subst P i u)).1)

pub comment_utf8 : (x rest : List ℕ) → IsComment (60 ∷ 33 ∷ x) rest → IsUtf8 x → IsUtf8 rest
comment_utf8 x rest e u =
    let ends = comment_ends e.inside rest e.ends in
    let i : x ≡ 45 ∷ 45 ∷ e.inside = cc in
    let P : List ℕ → Type 0 = λ l. IsUtf8 l in
    utf8_behind (45 ∷ 45 ∷ ends.0) rest 62 (omega arith) (subst P (i ∙ ap (λ l. 45 ∷ 45 ∷ l) ends.1) u)

pub instruction_utf8 : (x rest : List ℕ) → IsInstruction (60 ∷ 63 ∷ x) rest → IsUtf8 x → IsUtf8 rest
instruction_utf8 x rest e u =
    let ends = instruction_ends e.inside rest e.ends in
    let i : x ≡ e.inside = cc in
    let P : List ℕ → Type 0 = λ l. IsUtf8 l in
    utf8_behind ends.0 rest 62 (omega arith) (subst P (i ∙ ends.1) u)

pub mark_utf8 : (r : List ℕ) → IsUtf8 (239 ∷ 187 ∷ 191 ∷ r) → IsUtf8 r
unfolding lib.Utf8.encode
mark_utf8 r u = IsUtf8-past_char (239 ∷ 187 ∷ 191 ∷ r) r 65279 u refl
