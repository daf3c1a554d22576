-- Where a piece of a tag breaks, or is cut off.
use Rattle.std.proofs.Common.{◌≡◌, ℕ, zero, suc, ◌<◌, ◌+◌, Bool, true, false, List, [], ◌∷◌, ◌++◌, length, replicate, refl, sym, ap, subst, ◌∙◌, arith, append-nil, append_assoc, length-append, inl, inr, eqb}
use Rattle.std.proofs.lemmas.List.{length-replicate}
use Rattle.std.proofs.lemmas.Bool.{false≢true}
use Rattle.std.proofs.lemmas.Bool.Decides.{nat_tests}
use Rattle.elem_text.specs.declared.elem.Attr.{Attr}
use Rattle.elem_text.specs.declared.lex.Flaw.{Flaw}
use Rattle.elem_text.specs.declared.lex.Flaw.TheVariants.{Cut, Bad, OutOfMemory}
use Rattle.elem_text.specs.Bytes.{AreAll, Stops, is_white, is_letter, is_name_byte, is_not, IsSpan, IsNamed, BeginsWithLetter}
use Rattle.elem_text.specs.Grammar.{HasName, IsQuote, IsQuoted}
use Rattle.elem_text.specs.Flaws.{IsFlawOf, IsEnded, ANamed, ASign, AQuote, AQuoted, AnAttr}
use Rattle.elem_text.proofs.Classes.{white_61, white_quote, name_61, name_97, letter_97}
use Rattle.elem_text.proofs.Spans.{heads, tails, same_span, span_more, named_more, begun_by, is_not_same}

pub flaw_map : (R S : List ℕ → List ℕ → Type 0) (b c : List ℕ) →
    ((more : List ℕ) → 0 < length more → R (b ++ more) [] → (more' : List ℕ) × (0 < length more') × S (c ++ more') []) →
    (((more rest : List ℕ) → R (b ++ more) rest → ⊥) → (more rest : List ℕ) → S (c ++ more) rest → ⊥) →
    (f : Flaw) → IsFlawOf R f b → IsFlawOf S f c
flaw_map R S b c cut bad Cut h = cut h.0 h.1 h.2
flaw_map R S b c cut bad Bad h = bad h
flaw_map R S b c cut bad OutOfMemory h = tt

pub span_join : (p : ℕ → Bool) (b f r more : List ℕ) → IsSpan p b f r → Stops p (r ++ more) → IsSpan p (b ++ more) f (r ++ more)
span_join p b f r more s t = record { spelled = ap (λ l. l ++ more) s.spelled ∙ append_assoc f r more; all = s.all; stops = t }

pub named_join : (b f r more : List ℕ) → IsNamed b f r → Stops is_name_byte (r ++ more) → IsNamed (b ++ more) f (r ++ more)
named_join b f r more s t = record { span = span_join is_name_byte b f r more s.span t; letter = s.letter }

pub span_settled : (p : ℕ → Bool) (b f r more g s : List ℕ) → IsSpan p b f r → (r ≡ [] → ⊥) → IsSpan p (b ++ more) g s → (f ≡ g) × (r ++ more ≡ s)
span_settled p b f r more g s a n c = same_span p (b ++ more) f g (r ++ more) s (span_more p b f r more a n) c

pub named_settled : (b f r more g s : List ℕ) → IsNamed b f r → (r ≡ [] → ⊥) → IsNamed (b ++ more) g s → (f ≡ g) × (r ++ more ≡ s)
named_settled b f r more g s a n c = span_settled is_name_byte b f r more g s a.span n c.span

pub named_begins : (x : ℕ) (b n rest : List ℕ) → IsNamed (x ∷ b) n rest → is_letter x ≡ true
named_begins x b [] rest s = absurd s.letter
named_begins x b (y ∷ n) rest s = ap is_letter (heads s.span.spelled) ∙ s.letter

pub named_some : (b n rest : List ℕ) → IsNamed b n rest → b ≡ [] → ⊥
named_some b [] rest s e = s.letter
named_some b (x ∷ n) rest s e = begun_by x [] (n ++ rest) b s.span.spelled e

pub named_97 : IsNamed (97 ∷ []) (97 ∷ []) []
named_97 = record { span = record { spelled = refl; all = (name_97, tt); stops = tt }; letter = letter_97 }

pub name_ended : (b : List ℕ) → (BeginsWithLetter b → ⊥) → (f : Flaw) → IsEnded f b → IsFlawOf ANamed f b
name_ended [] h Cut e = (97 ∷ [], omega arith, (97 ∷ [], named_97))
name_ended (x ∷ b) h Cut e = absurd (begun_by x [] b (x ∷ b) refl e)
name_ended [] h Bad e = absurd (e refl)
name_ended (x ∷ b) h Bad e = λ more rest n. h (named_begins x (b ++ more) n.0 rest n.1)
name_ended b h OutOfMemory e = absurd e

pub quote_ended : (b : List ℕ) → ((rest : List ℕ) → b ≡ 34 ∷ rest → ⊥) → ((rest : List ℕ) → b ≡ 39 ∷ rest → ⊥) → (f : Flaw) → IsEnded f b → IsFlawOf AQuote f b
quote_ended [] h k Cut e = (34 ∷ [], omega arith, (34, refl, inl refl))
quote_ended (x ∷ b) h k Cut e = absurd (begun_by x [] b (x ∷ b) refl e)
quote_ended [] h k Bad e = absurd (e refl)
quote_ended (x ∷ b) h k Bad e = λ more rest q. other q.2 (heads q.1)
  where
    other : {q : ℕ} → IsQuote q → x ≡ q → ⊥
    other (inl i) j = h b (ap (λ y. y ∷ b) (j ∙ i))
    other (inr i) j = k b (ap (λ y. y ∷ b) (j ∙ i))
quote_ended b h k OutOfMemory e = absurd e

-- no quote stands at the front
pub quoted_by_quote : (b : List ℕ) (f : Flaw) → IsFlawOf AQuote f b → IsFlawOf AQuoted f b
quoted_by_quote b f h = flaw_map AQuote AQuoted b b
    (λ more n q. (
      more ++ q.0 ∷ [],
      omega (arith, length-append more (q.0 ∷ [])),
      (
        [],
        record {
          quote = q.0;
          inside = q.0 ∷ [];
          mark = sym (append_assoc b more (q.0 ∷ [])) ∙ ap (λ l. l ++ q.0 ∷ []) q.1;
          is_quote = q.2;
          span = record { spelled = refl; all = tt; stops = is_not_same q.0 };
        },
      ),
    ))
    (λ bad more rest q. bad more q.1.inside (q.1.quote, q.1.mark, q.1.is_quote)) f h

-- the second quote is missing
pub quoted_open : (b : List ℕ) (q : ℕ) (inside raw rest : List ℕ) → b ≡ q ∷ inside → IsQuote q → IsSpan (is_not q) inside raw rest → ((t : List ℕ) → rest ≡ q ∷ t → ⊥) →
    IsFlawOf AQuoted Cut b
quoted_open b q inside raw [] m i s h = (
  q ∷ [],
  omega arith,
  (
    raw,
    record {
      quote = q;
      inside = inside ++ q ∷ [];
      mark = ap (λ l. l ++ q ∷ []) m;
      is_quote = i;
      span = span_join (is_not q) inside raw [] (q ∷ []) s (is_not_same q);
    },
  ),
)
quoted_open b q inside raw (x ∷ rest) m i s h = absurd (h rest (ap (λ y. y ∷ rest) (is_same x s.stops)))
  where
    is_same : (x : ℕ) → is_not q x ≡ false → x ≡ q
    is_same x e = grind (arith, nat_tests)

-- the sign is missing behind white space
pub sign_ended : (c : ℕ) → is_white c ≡ false → (b gap r : List ℕ) → IsSpan is_white b gap r → ((t : List ℕ) → r ≡ c ∷ t → ⊥) → (f : Flaw) → IsEnded f r → IsFlawOf (ASign c) f b
sign_ended c w b gap [] s h Cut e = (c ∷ [], omega arith, (gap, span_join is_white b gap [] (c ∷ []) s w))
sign_ended c w b gap (x ∷ r) s h Cut e = absurd (begun_by x [] r (x ∷ r) refl e)
sign_ended c w b gap [] s h Bad e = absurd (e refl)
sign_ended c w b gap (x ∷ r) s h Bad e = λ more rest g.
    h r (ap (λ y. y ∷ r) (heads (span_settled is_white b gap (x ∷ r) more g.0 (c ∷ rest) s e g.1).1))
sign_ended c w b gap r s h OutOfMemory e = absurd e

-- a name that is longer than all names of the attributes is none of them
abbrev total : List Attr → ℕ
total [] = 0
total (a ∷ attrs) = length a.name + total attrs

long_fresh : (attrs : List Attr) (n : List ℕ) → total attrs < length n → HasName attrs n → ⊥
long_fresh [] n l h = h
long_fresh (a ∷ attrs) n l (inl e) = omega (arith, ap length e)
long_fresh (a ∷ attrs) n l (inr h) = long_fresh attrs n (omega arith) h

all_97 : (k : ℕ) → AreAll is_name_byte (replicate k 97)
all_97 zero = tt
all_97 (suc k) = (name_97, all_97 k)

pub all_append : (p : ℕ → Bool) (xs ys : List ℕ) → AreAll p xs → AreAll p ys → AreAll p (xs ++ ys)
all_append p [] ys a b = b
all_append p (x ∷ xs) ys a b = (a.0, all_append p xs ys a.1 b)

letter_append : (n ext : List ℕ) → BeginsWithLetter n → BeginsWithLetter (n ++ ext)
letter_append [] ext l = absurd l
letter_append (x ∷ n) ext l = l

quoted_empty : IsQuoted (34 ∷ 34 ∷ []) [] []
quoted_empty = record { quote = 34; inside = 34 ∷ []; mark = refl; is_quote = inl refl; span = record { spelled = refl; all = tt; stops = is_not_same 34 } }

pub white_none : (b : List ℕ) → Stops is_white b → IsSpan is_white b [] b
white_none b s = record { spelled = refl; all = tt; stops = s }

-- a name at the file's end may go on to a new one
pub attr_done : (before : List Attr) (b n : List ℕ) → IsNamed b n [] → IsFlawOf (AnAttr before) Cut b
attr_done before b n s =
    let ext = replicate (suc (total before)) 97 in
    let t = 61 ∷ 34 ∷ 34 ∷ [] in
    let e : length ext ≡ suc (total before) = length-replicate (suc (total before)) 97 in (
      ext ++ t,
      omega (arith, length-append ext t, e),
      (
        n ++ ext,
        [],
        record {
          left = [];
          right = [];
          at_left = t;
          at_right = 34 ∷ 34 ∷ [];
          at_quote = 34 ∷ 34 ∷ [];
          named = record {
            span = record {
              spelled = ap (λ l. l ++ (ext ++ t)) (s.span.spelled ∙ append-nil n) ∙ sym (append_assoc n ext t);
              all = all_append is_name_byte n ext s.span.all (all_97 (suc (total before)));
              stops = name_61;
            };
            letter = letter_append n ext s.letter;
          };
          before_sign = white_none t white_61;
          behind_sign = white_none (34 ∷ 34 ∷ []) (white_quote 34 (inl refl));
          quoted = quoted_empty;
        },
        long_fresh before (n ++ ext) (omega (arith, length-append n ext, e)),
      ),
    )

pub attr_by_name : (before : List Attr) (b : List ℕ) (f : Flaw) → IsFlawOf ANamed f b → IsFlawOf (AnAttr before) f b
attr_by_name before b f h = flaw_map ANamed (AnAttr before) b b
    (λ more l n. longer more (attr_done before (b ++ more) n.0 n.1))
    (λ bad more rest a. bad more a.2.at_left (a.0, a.2.named)) f h
  where
    longer : (more : List ℕ) → IsFlawOf (AnAttr before) Cut (b ++ more) → IsFlawOf (AnAttr before) Cut b
    longer more d =
        let P : List ℕ → Type 0 = λ l. AnAttr before l [] in
        (more ++ d.0, omega (arith, length-append more d.0, d.1), subst P (append_assoc b more d.0) d.2)

pub attr_twice : (before : List Attr) (b n r : List ℕ) → IsNamed b n r → (r ≡ [] → ⊥) → HasName before n → IsFlawOf (AnAttr before) Bad b
attr_twice before b n r s e h = λ more rest a.
    let P : List ℕ → Type 0 = λ l. HasName before l in
    a.3 (subst P (named_settled b n r more a.0 a.2.at_left s e a.2.named).0 h)

pub attr_by_sign : (before : List Attr) (b n r : List ℕ) → IsNamed b n r → (r ≡ [] → ⊥) → (HasName before n → ⊥) → (f : Flaw) → IsFlawOf (ASign 61) f r → IsFlawOf (AnAttr before) f b
attr_by_sign before b n r s e fresh f h = flaw_map (ASign 61) (AnAttr before) r b
    (λ more l g.
    let q = 34 ∷ 34 ∷ [] in
    let more' = more ++ q in
    let P : List ℕ → Type 0 = λ x. IsSpan is_white x g.0 (61 ∷ q) in (
      more',
      omega (arith, length-append more q),
      (
        n,
        [],
        record {
          left = g.0;
          right = [];
          at_left = r ++ more';
          at_right = q;
          at_quote = q;
          named = named_more b n r more' s e;
          before_sign = subst P (append_assoc r more q) (span_more is_white (r ++ more) g.0 (61 ∷ []) q g.1 (begun_by 61 [] [] (61 ∷ []) refl));
          behind_sign = white_none q (white_quote 34 (inl refl));
          quoted = quoted_empty;
        },
        fresh,
      ),
    ))
    (λ bad more rest a.
    let P : List ℕ → Type 0 = λ x. IsSpan is_white x a.2.left (61 ∷ a.2.at_right) in
    bad more a.2.at_right (a.2.left, subst P (sym (named_settled b n r more a.0 a.2.at_left s e a.2.named).1) a.2.before_sign)) f h

quote_stops : (b raw after : List ℕ) → IsQuoted b raw after → Stops is_white b
quote_stops [] raw after q = tt
quote_stops (x ∷ b) raw after q = ap is_white (heads q.mark) ∙ white_quote q.quote q.is_quote

pub attr_by_quoted : (before : List Attr) (b n r gap r3 gap2 r4 : List ℕ) → IsNamed b n r → (r ≡ [] → ⊥) → (HasName before n → ⊥) → IsSpan is_white r gap (61 ∷ r3) →
    IsSpan is_white r3 gap2 r4 → (f : Flaw) → IsFlawOf AQuoted f r4 → IsFlawOf (AnAttr before) f b
attr_by_quoted before b n r gap r3 gap2 r4 s e fresh g w f h = flaw_map AQuoted (AnAttr before) r4 b
    (λ more l q. (
      more,
      l,
      (
        n,
        q.0,
        record {
          left = gap;
          right = gap2;
          at_left = r ++ more;
          at_right = r3 ++ more;
          at_quote = r4 ++ more;
          named = named_more b n r more s e;
          before_sign = span_more is_white r gap (61 ∷ r3) more g (begun_by 61 [] r3 (61 ∷ r3) refl);
          behind_sign = span_join is_white r3 gap2 r4 more w (quote_stops (r4 ++ more) q.0 [] q.1);
          quoted = q.1;
        },
        fresh,
      ),
    ))
    (λ bad more rest a.
    let P : List ℕ → Type 0 = λ x. IsSpan is_white x a.2.left (61 ∷ a.2.at_right) in
    let b1 = subst P (sym (named_settled b n r more a.0 a.2.at_left s e a.2.named).1) a.2.before_sign in
    let k : r3 ++ more ≡ a.2.at_right = tails (span_settled is_white r gap (61 ∷ r3) more a.2.left (61 ∷ a.2.at_right) g (begun_by 61 [] r3 (61 ∷ r3) refl) b1).1 in
    let Q : List ℕ → Type 0 = λ x. IsSpan is_white x a.2.right a.2.at_quote in
    last r4 w bad more rest a.2.right a.2.at_quote a.1 (subst Q (sym k) a.2.behind_sign) a.2.quoted) f h
  where
    last : (r4 : List ℕ) → IsSpan is_white r3 gap2 r4 → ((more rest : List ℕ) → AQuoted (r4 ++ more) rest → ⊥) → (more rest right at raw : List ℕ) →
        IsSpan is_white (r3 ++ more) right at → IsQuoted at raw rest → ⊥
    last [] w bad more rest right at raw s q = bad (34 ∷ 34 ∷ []) [] ([], quoted_empty)
    last (x ∷ r4) w bad more rest right at raw s q =
        let P : List ℕ → Type 0 = λ l. IsQuoted l raw rest in
        bad more rest (raw, subst P (sym (span_settled is_white r3 gap2 (x ∷ r4) more right at w (begun_by x [] r4 (x ∷ r4) refl) s).1) q)

pub attr_at_end : (before : List Attr) (b n r : List ℕ) → IsNamed b n r → r ≡ [] → IsFlawOf (AnAttr before) Cut b
attr_at_end before b n r s e = let P : List ℕ → Type 0 = λ x. IsNamed b n x in attr_done before b n (subst P e s)

pub some_bytes : (r : List ℕ) (t : Bool) → t ≡ eqb (length r) 0 → t ≡ false → r ≡ [] → ⊥
some_bytes r t h f e = false≢true (sym f ∙ (h ∙ ap (λ (l : List ℕ). eqb (length l) 0) e))
