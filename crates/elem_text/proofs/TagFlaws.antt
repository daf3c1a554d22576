-- Where a tag breaks, or is cut off.
use Rattle.std.proofs.Common.{◌≡◌, ℕ, Bool, true, false, List, [], ◌∷◌, ◌++◌, refl, sym, ap, subst, ◌∙◌, arith, append_assoc, length-append}
use Rattle.std.proofs.lemmas.Bool.{false≢true}
use Rattle.elem_text.specs.declared.elem.Attr.{Attr}
use Rattle.elem_text.specs.declared.lex.Flaw.{Flaw}
use Rattle.elem_text.specs.declared.lex.Flaw.TheVariants.{Cut, Bad, OutOfMemory}
use Rattle.elem_text.specs.Bytes.{Stops, is_white, is_letter, is_name_byte, IsSpan, IsNamed}
use Rattle.elem_text.specs.References.{decoded}
use Rattle.elem_text.specs.Grammar.{IsAttr, Attributes, tail_of}
use Rattle.elem_text.specs.Flaws.{IsFlawOf, IsEnded, IsSlash, NoTail, ANamed, ASign, AnAttr, ATagRest, AStartTag, AnEndTag}
use Rattle.elem_text.proofs.Classes.{white_62, white_47, name_62, name_47, name_white}
use Rattle.elem_text.proofs.Spans.{heads, tails, begun_by}
use Rattle.elem_text.proofs.Attrs.{attr_more, attr_stops, attr_letter, Went, went, tail_first, Reading}
use Rattle.elem_text.proofs.Flawed.{flaw_map, span_join, named_join, named_settled, white_none, attr_done, named_97}

-- the tag's end stands behind white space
tail_attrs : (before : List Attr) (b gap r more : List ℕ) (empty : Bool) (rest : List ℕ) → IsSpan is_white b gap r → r ++ more ≡ tail_of empty rest →
    Attributes before (b ++ more) [] (tail_of empty rest)
tail_attrs before b gap r more empty rest s e =
    let P : List ℕ → Type 0 = λ l. IsSpan is_white (b ++ more) gap l in
    (gap, subst P e (span_join is_white b gap r more s (stops empty (r ++ more) rest e)))
  where
    stops : (empty : Bool) (x rest : List ℕ) → x ≡ tail_of empty rest → Stops is_white x
    stops empty [] rest e = tt
    stops false (x ∷ l) rest e = ap is_white (heads e) ∙ white_62
    stops true (x ∷ l) rest e = ap is_white (heads e) ∙ white_47

letter_differs : (x y : ℕ) → x ≡ y → is_letter y ≡ false → is_letter x ≡ true → ⊥
letter_differs x y e f t = false≢true (sym f ∙ (ap is_letter (sym e) ∙ t))

pub next_by_slash : (before : List Attr) (b gap r : List ℕ) → IsSpan is_white b gap r → (f : Flaw) → IsSlash f r → IsFlawOf (ATagRest before) f b
next_by_slash before b gap r s Cut k =
    (62 ∷ [], omega arith, ([], true, tail_attrs before b gap r (62 ∷ []) true [] s (ap (λ l. l ++ 62 ∷ []) (k.1 ∙ ap (λ (l : List ℕ). 47 ∷ l) k.3))))
next_by_slash before b gap r s Bad k = λ more rest t.
    split more t.0 t.1 rest (went before b gap r more t.0 (tail_of t.1 rest) s (begun_by 47 [] k.0 r k.1) t.2)
  where
    spelled : (more : List ℕ) → r ++ more ≡ 47 ∷ (k.0 ++ more)
    spelled more = ap (λ l. l ++ more) k.1

    first : (inside more rest : List ℕ) → (inside ≡ [] → ⊥) → inside ++ more ≡ 62 ∷ rest → (t : List ℕ) × (inside ≡ 62 ∷ t)
    first [] more rest n e = absurd (n refl)
    first (x ∷ inside) more rest n e = (inside, ap (λ y. y ∷ inside) (heads e))

    split : (more : List ℕ) (attrs : List Attr) (empty : Bool) (rest : List ℕ) → Went before gap (r ++ more) attrs (tail_of empty rest) → ⊥
    split more [] false rest w = omega (arith, heads (sym (spelled more) ∙ w))
    split more [] true rest w = let q = first k.0 more rest k.3 (tails (sym (spelled more) ∙ w)) in k.2 q.0 q.1
    split more (a ∷ attrs) empty rest w =
        let P : List ℕ → Type 0 = λ l. IsAttr l a.name w.0 w.1 in
        false≢true (sym (tail_first 47 (62 ∷ []) true [] refl) ∙ attr_letter 47 (k.0 ++ more) a.name w.0 w.1 (subst P (spelled more) w.3))
next_by_slash before b gap r s OutOfMemory k = tt

no_tail : (r more : List ℕ) (empty : Bool) (rest : List ℕ) → NoTail r → (r ≡ [] → ⊥) → r ++ more ≡ tail_of empty rest → ⊥
no_tail [] more empty rest h n e = n refl
no_tail (x ∷ r) more false rest h n e = (h r).0 (ap (λ y. y ∷ r) (heads e))
no_tail (x ∷ r) more true rest h n e = (h r).1 (ap (λ y. y ∷ r) (heads e))

pub next_no_gap : (before : List Attr) (b gap r : List ℕ) → IsSpan is_white b gap r → gap ≡ [] → NoTail r → (f : Flaw) → IsEnded f r → IsFlawOf (ATagRest before) f b
next_no_gap before b gap r s g h Cut e =
    (62 ∷ [], omega arith, ([], false, tail_attrs before b gap r (62 ∷ []) false [] s (ap (λ l. l ++ 62 ∷ []) e)))
next_no_gap before b gap r s g h Bad e = λ more rest t.
    split more t.0 t.1 rest (went before b gap r more t.0 (tail_of t.1 rest) s e t.2)
  where
    split : (more : List ℕ) (attrs : List Attr) (empty : Bool) (rest : List ℕ) → Went before gap (r ++ more) attrs (tail_of empty rest) → ⊥
    split more [] empty rest w = no_tail r more empty rest h e w
    split more (a ∷ attrs) empty rest w = w.2 g
next_no_gap before b gap r s g h OutOfMemory e = absurd e

pub next_by_attr : (before : List Attr) (b gap r : List ℕ) → IsSpan is_white b gap r → (gap ≡ [] → ⊥) → NoTail r → (f : Flaw) → IsFlawOf (AnAttr before) f r →
    IsFlawOf (ATagRest before) f b
next_by_attr before b gap r s g h f k = flaw_map (AnAttr before) (ATagRest before) r b
    (λ more l a.
    let more' = more ++ 62 ∷ [] in
    let P : List ℕ → Type 0 = λ x. IsAttr x a.0 a.1 (62 ∷ []) in
    let t : IsAttr (r ++ more') a.0 a.1 (62 ∷ []) = subst P (append_assoc r more (62 ∷ [])) (attr_more (r ++ more) a.0 a.1 [] (62 ∷ []) a.2) in (
      more',
      omega (arith, length-append more (62 ∷ [])),
      (
        record { name = a.0; value = decoded a.1 } ∷ [],
        false,
        (gap, r ++ more', a.1, 62 ∷ [], span_join is_white b gap r more' s (attr_stops (r ++ more') a.0 a.1 (62 ∷ []) t), g, t, refl, a.3, ([], white_none (62 ∷ []) white_62)),
      ),
    ))
    (λ bad more rest t. by_rest r s h bad more t.0 t.1 rest t.2) f k
  where
    by_rest : (r : List ℕ) → IsSpan is_white b gap r → NoTail r → ((more rest : List ℕ) → AnAttr before (r ++ more) rest → ⊥) → (more : List ℕ) (attrs : List Attr) (empty : Bool) (rest : List ℕ) →
        Attributes before (b ++ more) attrs (tail_of empty rest) → ⊥
    by_rest [] s h bad more attrs empty rest t = let d = attr_done before (97 ∷ []) (97 ∷ []) named_97 in bad (97 ∷ d.0) [] d.2
    by_rest (x ∷ r) s h bad more attrs empty rest t = split attrs (went before b gap (x ∷ r) more attrs (tail_of empty rest) s (begun_by x [] r (x ∷ r) refl) t)
      where
        split : (attrs : List Attr) → Went before gap (x ∷ (r ++ more)) attrs (tail_of empty rest) → ⊥
        split [] w = no_tail (x ∷ r) more empty rest h (begun_by x [] r (x ∷ r) refl) w
        split (a ∷ attrs) w = bad more w.1 (a.name, w.0, w.3, w.5)

pub tag_by_next : (all : List ℕ) (done : List Attr) (left : List ℕ) → Reading all done left → (f : Flaw) → IsFlawOf (ATagRest done) f left → IsFlawOf (ATagRest []) f all
tag_by_next all done left r f h = flaw_map (ATagRest done) (ATagRest []) left all
    (λ more l t. (more, l, (done ++ t.0, t.1, r.on more t.0 (tail_of t.1 []) t.2)))
    (λ bad more rest t. let b = r.back more t.0 t.1 rest t.2 in bad more rest (b.0, t.1, b.2)) f h

tag_end_now : ATagRest [] (62 ∷ []) []
tag_end_now = ([], false, ([], white_none (62 ∷ []) white_62))

pub start_by_name : (b : List ℕ) (f : Flaw) → IsFlawOf ANamed f b → IsFlawOf AStartTag f b
start_by_name b f h = flaw_map ANamed AStartTag b b
    (λ more l n.
    let P : List ℕ → Type 0 = λ x. IsNamed x n.0 (62 ∷ []) in (
      more ++ 62 ∷ [],
      omega (arith, length-append more (62 ∷ [])),
      (
        n.0,
        [],
        false,
        record {
          inside = b ++ (more ++ 62 ∷ []);
          behind = 62 ∷ [];
          angle = refl;
          named = subst P (append_assoc b more (62 ∷ [])) (named_join (b ++ more) n.0 [] (62 ∷ []) n.1 name_62);
          attributes = ([], white_none (62 ∷ []) white_62);
        },
      ),
    ))
    (λ bad more rest s.
    let P : List ℕ → Type 0 = λ x. IsNamed x s.0 s.3.behind in
    bad more s.3.behind (s.0, subst P (sym (tails s.3.angle)) s.3.named)) f h

gap_stops : (x gap r : List ℕ) → IsSpan is_white x gap r → (gap ≡ [] → Stops is_name_byte r) → Stops is_name_byte x
gap_stops x [] r s h = let P : List ℕ → Type 0 = λ l. Stops is_name_byte l in subst P (sym s.spelled) (h refl)
gap_stops x (w ∷ gap) r s h = let P : List ℕ → Type 0 = λ l. Stops is_name_byte l in subst P (sym s.spelled) (name_white w s.all.0)

attributes_stop : (x : List ℕ) (attrs : List Attr) (empty : Bool) (rest : List ℕ) → Attributes [] x attrs (tail_of empty rest) → Stops is_name_byte x
attributes_stop x [] false rest a = gap_stops x a.0 (62 ∷ rest) a.1 (λ _. name_62)
attributes_stop x [] true rest a = gap_stops x a.0 (47 ∷ 62 ∷ rest) a.1 (λ _. name_47)
attributes_stop x (y ∷ attrs) empty rest a = gap_stops x a.0 a.1 a.4 (λ e. absurd (a.5 e))

pub start_by_rest : (b n r : List ℕ) → IsNamed b n r → (f : Flaw) → IsFlawOf (ATagRest []) f r → IsFlawOf AStartTag f b
start_by_rest b n r s f h = flaw_map (ATagRest []) AStartTag r b
    (λ more l t. (
      more,
      l,
      (
        n,
        t.0,
        t.1,
        record {
          inside = b ++ more;
          behind = r ++ more;
          angle = refl;
          named = named_join b n r more s (attributes_stop (r ++ more) t.0 t.1 [] t.2);
          attributes = t.2;
        },
      ),
    ))
    (λ bad more rest t.
    let P : List ℕ → Type 0 = λ x. IsNamed x t.0 t.3.behind in
    by_rest r s bad more rest t.0 t.1 t.2 t.3.behind (subst P (sym (tails t.3.angle)) t.3.named) t.3.attributes) f h
  where
    by_rest : (r : List ℕ) → IsNamed b n r → ((more rest : List ℕ) → ATagRest [] (r ++ more) rest → ⊥) → (more rest n' : List ℕ) (attrs : List Attr) (empty : Bool) (behind : List ℕ) →
        IsNamed (b ++ more) n' behind → Attributes [] behind attrs (tail_of empty rest) → ⊥
    by_rest [] s bad more rest n' attrs empty behind t a = bad (62 ∷ []) [] tag_end_now
    by_rest (x ∷ r) s bad more rest n' attrs empty behind t a =
        let P : List ℕ → Type 0 = λ l. Attributes [] l attrs (tail_of empty rest) in
        bad more rest (attrs, empty, subst P (sym (named_settled b n (x ∷ r) more n' behind s (begun_by x [] r (x ∷ r) refl) t).1) a)

pub end_by_name : (b : List ℕ) (f : Flaw) → IsFlawOf ANamed f b → IsFlawOf AnEndTag f b
end_by_name b f h = flaw_map ANamed AnEndTag b b
    (λ more l n.
    let P : List ℕ → Type 0 = λ x. IsNamed x n.0 (62 ∷ []) in (
      more ++ 62 ∷ [],
      omega (arith, length-append more (62 ∷ [])),
      (
        n.0,
        record {
          inside = b ++ (more ++ 62 ∷ []);
          behind = 62 ∷ [];
          gap = [];
          angle = refl;
          named = subst P (append_assoc b more (62 ∷ [])) (named_join (b ++ more) n.0 [] (62 ∷ []) n.1 name_62);
          white = white_none (62 ∷ []) white_62;
        },
      ),
    ))
    (λ bad more rest s.
    let P : List ℕ → Type 0 = λ x. IsNamed x s.0 s.1.behind in
    bad more s.1.behind (s.0, subst P (sym (tails (tails s.1.angle))) s.1.named)) f h

pub end_by_sign : (b n r : List ℕ) → IsNamed b n r → (f : Flaw) → IsFlawOf (ASign 62) f r → IsFlawOf AnEndTag f b
end_by_sign b n r s f h = flaw_map (ASign 62) AnEndTag r b
    (λ more l g. (
      more,
      l,
      (
        n,
        record {
          inside = b ++ more;
          behind = r ++ more;
          gap = g.0;
          angle = refl;
          named = named_join b n r more s (gap_stops (r ++ more) g.0 (62 ∷ []) g.1 (λ _. name_62));
          white = g.1;
        },
      ),
    ))
    (λ bad more rest t.
    let P : List ℕ → Type 0 = λ x. IsNamed x t.0 t.1.behind in
    by_rest r s bad more rest t.0 t.1.gap t.1.behind (subst P (sym (tails (tails t.1.angle))) t.1.named) t.1.white) f h
  where
    by_rest : (r : List ℕ) → IsNamed b n r → ((more rest : List ℕ) → ASign 62 (r ++ more) rest → ⊥) → (more rest n' gap behind : List ℕ) →
        IsNamed (b ++ more) n' behind → IsSpan is_white behind gap (62 ∷ rest) → ⊥
    by_rest [] s bad more rest n' gap behind t w = bad (62 ∷ []) [] ([], white_none (62 ∷ []) white_62)
    by_rest (x ∷ r) s bad more rest n' gap behind t w =
        let P : List ℕ → Type 0 = λ l. IsSpan is_white l gap (62 ∷ rest) in
        bad more rest (gap, subst P (sym (named_settled b n (x ∷ r) more n' behind s (begun_by x [] r (x ∷ r) refl) t).1) w)

-- a tag that breaks off right behind its angle
pub start_cut : IsFlawOf AStartTag Cut []
start_cut = start_by_name [] Cut (97 ∷ [], omega arith, (97 ∷ [], named_97))
