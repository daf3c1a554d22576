-- Attributes of a tag.
use Rattle.std.proofs.Common.{◌≡◌, ℕ, zero, suc, ◌<◌, Bool, true, false, List, [], ◌∷◌, ◌++◌, length, get_or, refl, sym, ap, subst, ◌∙◌, arith, append_assoc, append-nil, inl, inr}
use Rattle.elem_text.specs.declared.elem.Attr.{Attr}
use Rattle.elem_text.specs.Bytes.{is_white, is_not, IsSpan}
use Rattle.elem_text.specs.References.{decoded}
use Rattle.elem_text.specs.Grammar.{HasName, IsQuoted, IsAttr, Attributes, tail_of}
use Rattle.elem_text.specs.Next.{IsNext}
use Rattle.elem_text.specs.declared.tags.Next.{Next}
use Rattle.elem_text.specs.declared.tags.Next.TheVariants.{End, Attr as an_attr}
use Rattle.elem_text.specs.declared.tag_attrs.RawAttr.{RawAttr}
use Rattle.elem_text.specs.Later.{attr_of}
use Rattle.elem_text.specs.declared.tags.TagEnd.{TagEnd}
use Rattle.std.proofs.lemmas.Bool.{false≢true}
use Rattle.elem_text.proofs.Classes.{white_letter, letter_62, letter_47}
use Rattle.elem_text.specs.Bytes.{is_letter, Stops, is_name_byte}
use Rattle.elem_text.proofs.Spans.{span_more, named_more, begun_by, same_span, heads, tails}

pub has_at : (attrs : List Attr) (name : List ℕ) (k : ℕ) (a : Attr) → k < length attrs → a ≡ get_or attrs k a → a.name ≡ name → HasName attrs name
has_at [] name k a h e n = absurd (omega arith)
has_at (b ∷ attrs) name zero a h e n = inl (ap (λ (x : Attr). x.name) (sym e) ∙ n)
has_at (b ∷ attrs) name (suc k) a h e n = inr (has_at attrs name k a (omega arith) e n)

pub quoted_more : (b raw after more : List ℕ) → IsQuoted b raw after → IsQuoted (b ++ more) raw (after ++ more)
quoted_more b raw after more q = record {
  quote = q.quote;
  inside = q.inside ++ more;
  mark = ap (λ l. l ++ more) q.mark;
  is_quote = q.is_quote;
  span = span_more (is_not q.quote) q.inside raw (q.quote ∷ after) more q.span (begun_by q.quote [] after (q.quote ∷ after) refl);
}

-- an attribute is the same under more bytes
pub attr_more : (b n raw after more : List ℕ) → IsAttr b n raw after → IsAttr (b ++ more) n raw (after ++ more)
attr_more b n raw after more a = record {
  left = a.left;
  right = a.right;
  at_left = a.at_left ++ more;
  at_right = a.at_right ++ more;
  at_quote = a.at_quote ++ more;
  named = named_more b n a.at_left more a.named (begun_by 61 a.left a.at_right a.at_left a.before_sign.spelled);
  before_sign = span_more is_white a.at_left a.left (61 ∷ a.at_right) more a.before_sign (begun_by 61 [] a.at_right (61 ∷ a.at_right) refl);
  behind_sign = span_more is_white a.at_right a.right a.at_quote more a.behind_sign (begun_by a.quoted.quote [] a.quoted.inside a.at_quote a.quoted.mark);
  quoted = quoted_more a.at_quote raw after more a.quoted;
}

pub attr_some : (b n raw after : List ℕ) → IsAttr b n raw after → b ≡ [] → ⊥
attr_some b [] raw after a e = a.named.letter
attr_some b (x ∷ n) raw after a e = begun_by x [] (n ++ a.at_left) b (a.named.span.spelled) e

-- there is one attribute at the front
one_quoted : (b raw x raw' x' : List ℕ) → IsQuoted b raw x → IsQuoted b raw' x' → (raw ≡ raw') × (x ≡ x')
one_quoted b raw x raw' x' p q =
    let e : p.quote ∷ p.inside ≡ q.quote ∷ q.inside = sym p.mark ∙ q.mark in
    let P : ℕ → Type 0 = λ c. IsSpan (is_not c) q.inside raw' (c ∷ x') in
    let Q : List ℕ → Type 0 = λ l. IsSpan (is_not p.quote) l raw' (p.quote ∷ x') in
    let s = same_span (is_not p.quote) p.inside raw raw' (p.quote ∷ x) (p.quote ∷ x') p.span (subst Q (sym (tails e)) (subst P (sym (heads e)) q.span)) in
    (s.0, tails s.1)

pub one_attr : (b n raw x n' raw' x' : List ℕ) → IsAttr b n raw x → IsAttr b n' raw' x' → (n ≡ n') × (raw ≡ raw') × (x ≡ x')
one_attr b n raw x n' raw' x' p q =
    let a = same_span is_name_byte b n n' p.at_left q.at_left p.named.span q.named.span in
    let P : List ℕ → Type 0 = λ l. IsSpan is_white l q.left (61 ∷ q.at_right) in
    let s = same_span is_white p.at_left p.left q.left (61 ∷ p.at_right) (61 ∷ q.at_right) p.before_sign (subst P (sym a.1) q.before_sign) in
    let Q : List ℕ → Type 0 = λ l. IsSpan is_white l q.right q.at_quote in
    let t = same_span is_white p.at_right p.right q.right p.at_quote q.at_quote p.behind_sign (subst Q (sym (tails s.1)) q.behind_sign) in
    let R : List ℕ → Type 0 = λ l. IsQuoted l raw' x' in
    let v = one_quoted p.at_quote raw x raw' x' p.quoted (subst R (sym t.1) q.quoted) in
    (a.0, v.0, v.1)

pub attr_settled : (b n raw x more n' raw' x' : List ℕ) → IsAttr b n raw x → IsAttr (b ++ more) n' raw' x' → (n ≡ n') × (raw ≡ raw') × (x ++ more ≡ x')
attr_settled b n raw x more n' raw' x' p q = one_attr (b ++ more) n raw (x ++ more) n' raw' x' (attr_more b n raw x more p) q

pub attr_letter : (x : ℕ) (b n raw after : List ℕ) → IsAttr (x ∷ b) n raw after → is_letter x ≡ true
attr_letter x b [] raw after a = absurd a.named.letter
attr_letter x b (y ∷ n) raw after a = ap is_letter (heads a.named.span.spelled) ∙ a.named.letter

pub attr_stops : (b n raw after : List ℕ) → IsAttr b n raw after → Stops is_white b
attr_stops [] n raw after a = tt
attr_stops (x ∷ b) n raw after a = white_letter x (attr_letter x b n raw after a)

-- behind white space the tag ends, or an attribute stands
abbrev pub Went : List Attr → List ℕ → List ℕ → List Attr → List ℕ → Type 0
Went before gap r [] behind = r ≡ behind
Went before gap r (a ∷ attrs) behind =
    (raw after : List ℕ) × (gap ≡ [] → ⊥) × IsAttr r a.name raw after × (a.value ≡ decoded raw) × (HasName before a.name → ⊥) × Attributes (before ++ a ∷ []) after attrs behind

pub went : (before : List Attr) (b gap r more : List ℕ) (attrs : List Attr) (behind : List ℕ) → IsSpan is_white b gap r → (r ≡ [] → ⊥) →
    Attributes before (b ++ more) attrs behind → Went before gap (r ++ more) attrs behind
went before b gap r more [] behind s n a = (same_span is_white (b ++ more) gap a.0 (r ++ more) behind (span_more is_white b gap r more s n) a.1).1
went before b gap r more (x ∷ attrs) behind s n a =
    let e = same_span is_white (b ++ more) gap a.0 (r ++ more) a.1 (span_more is_white b gap r more s n) a.4 in
    let P : List ℕ → Type 0 = λ l. IsAttr l x.name a.2 a.3 in
    (a.2, a.3, (λ g. a.5 (sym e.0 ∙ g)), subst P (sym e.1) a.6, a.7, a.8, a.9)

pub tail_first : (x : ℕ) (b : List ℕ) (empty : Bool) (rest : List ℕ) → x ∷ b ≡ tail_of empty rest → is_letter x ≡ false
tail_first x b false rest e = ap is_letter (heads e) ∙ letter_62
tail_first x b true rest e = ap is_letter (heads e) ∙ letter_47

attr_no_tail : (b n raw after more : List ℕ) (empty : Bool) (rest : List ℕ) → IsAttr b n raw after → b ++ more ≡ tail_of empty rest → ⊥
attr_no_tail [] n raw after more empty rest a e = attr_some [] n raw after a refl
attr_no_tail (x ∷ b) n raw after more empty rest a e = false≢true (sym (tail_first x (b ++ more) empty rest e) ∙ attr_letter x b n raw after a)

pub attr_same : (x a : Attr) → x.name ≡ a.name → x.value ≡ a.value → x ≡ a
attr_same x a n v =
    let P : List ℕ → Type 0 = λ t. record { name = t; value = x.value } ≡ a in
    let Q : List ℕ → Type 0 = λ t. record { name = a.name; value = t } ≡ a in
    subst P (sym n) (subst Q (sym v) refl)

-- so far these attributes were read: whatever is read of the rest completes them, and nothing else
-- can be read, whatever bytes follow
pub record Reading (all : List ℕ) (done : List Attr) (left : List ℕ) : Type 0 where
  pub on : (more : List ℕ) (attrs : List Attr) (x : List ℕ) → Attributes done (left ++ more) attrs x → Attributes [] (all ++ more) (done ++ attrs) x
  pub back : (more : List ℕ) (attrs : List Attr) (empty : Bool) (rest : List ℕ) → Attributes [] (all ++ more) attrs (tail_of empty rest) →
      (later : List Attr) × (attrs ≡ done ++ later) × Attributes done (left ++ more) later (tail_of empty rest)

-- what follows an attribute that was read
back_one : (done : List Attr) (left gap rest raw after : List ℕ) (a : Attr) (more : List ℕ) (later : List Attr) (empty : Bool) (end : List ℕ) →
    IsSpan is_white left gap rest → IsAttr rest a.name raw after → a.value ≡ decoded raw → Attributes done (left ++ more) later (tail_of empty end) →
    (others : List Attr) × (later ≡ a ∷ others) × Attributes (done ++ a ∷ []) (after ++ more) others (tail_of empty end)
back_one done left gap rest raw after a more later empty end s t v b =
    split later (went done left gap rest more later (tail_of empty end) s (attr_some rest a.name raw after t) b)
  where
    split : (later : List Attr) → Went done gap (rest ++ more) later (tail_of empty end) →
        (others : List Attr) × (later ≡ a ∷ others) × Attributes (done ++ a ∷ []) (after ++ more) others (tail_of empty end)
    split [] w = absurd (attr_no_tail rest a.name raw after more empty end t w)
    split (x ∷ others) w =
        let e = attr_settled rest a.name raw after more x.name w.0 w.1 t w.3 in
        let same : x ≡ a = attr_same x a (sym e.0) (w.4 ∙ (ap decoded (sym e.1) ∙ sym v)) in
        let P : Attr → Type 0 = λ y. Attributes (done ++ y ∷ []) w.1 others (tail_of empty end) in
        let Q : List ℕ → Type 0 = λ l. Attributes (done ++ a ∷ []) l others (tail_of empty end) in
        (others, ap (λ (y : Attr). y ∷ others) same, subst Q (sym e.2) (subst P same w.6))

reading_on : (all : List ℕ) (done : List Attr) (left : List ℕ) (r : RawAttr) → Reading all done left → IsNext done left (an_attr r) → Reading all (done ++ attr_of r ∷ []) r.after.now
reading_on all done left r g n = record {
  on = λ more attrs x later.
      let rest = n.1 in
      let whole : Attributes done (left ++ more) (attr_of r ∷ attrs) x = (
        n.0,
        rest ++ more,
        r.raw.now,
        r.after.now ++ more,
        span_more is_white left n.0 rest more n.2 (attr_some rest r.name.now r.raw.now r.after.now n.4),
        n.3,
        attr_more rest r.name.now r.raw.now r.after.now more n.4,
        refl,
        n.5,
        later,
      ) in
      let P : List Attr → Type 0 = λ l. Attributes [] (all ++ more) l x in
      subst P (sym (append_assoc done (attr_of r ∷ []) attrs)) (g.on more (attr_of r ∷ attrs) x whole);
  back = λ more attrs empty rest b.
      let i = g.back more attrs empty rest b in
      let j = back_one done left n.0 n.1 r.raw.now r.after.now (attr_of r) more i.0 empty rest n.2 n.4 refl i.2 in
      (j.0, i.1 ∙ (ap (λ (l : List Attr). done ++ l) j.1 ∙ sym (append_assoc done (attr_of r ∷ []) j.0)), j.2);
}

pub reading_none : (all : List ℕ) → Reading all [] all
reading_none all = record { on = λ more attrs x a. a; back = λ more attrs empty rest a. (attrs, refl, a) }

pub reading_more : (all : List ℕ) (done : List Attr) (left : List ℕ) (next : Next) (r : RawAttr) → Reading all done left → next ≡ an_attr r → IsNext done left next →
    Reading all (done ++ attr_of r ∷ []) r.after.now
reading_more all done left next r g f n = let P : Next → Type 0 = λ x. IsNext done left x in reading_on all done left r g (subst P f n)

-- where the end stands next, the attributes so far are all
pub reading_end : (all : List ℕ) (done : List Attr) (left : List ℕ) (next : Next) (end : TagEnd) → Reading all done left → next ≡ End end → IsNext done left next →
    Attributes [] all done (tail_of end.empty end.rest.now)
reading_end all done left next end r f n =
    let Q' : Next → Type 0 = λ x. IsNext done left x in
    let n' : IsNext done left (End end) = subst Q' f n in
    let x = tail_of end.empty end.rest.now in
    let P : List ℕ → Type 0 = λ l. Attributes done l [] x in
    let start : Attributes done (left ++ []) [] x = subst P (sym (append-nil left)) n' in
    let whole : Attributes [] (all ++ []) (done ++ []) x = r.on [] [] x start in
    let Q : List ℕ → Type 0 = λ l. Attributes [] l (done ++ []) x in
    let R : List Attr → Type 0 = λ l. Attributes [] all l x in
    subst R (append-nil done) (subst Q (append-nil all) whole)
