-- The bytes begin with one piece, and a tag is the same under more bytes.
use Rattle.std.proofs.Common.{◌≡◌, ℕ, ◌<◌, Bool, true, false, cond, List, [], ◌∷◌, ◌++◌, length, refl, sym, ap, subst, ◌∙◌, arith, length-append, inl, inr, ◌⊎◌, ⊎_elim, Option, Some, eqb, ◌&&◌}
use Rattle.std.proofs.lemmas.Bool.{false≢true}
use Rattle.vtr_base.specs.declared.place.Place.{Place}
use Rattle.elem_text.specs.declared.elem.Attr.{Attr}
use Rattle.elem_text.specs.Bytes.{is_white, is_letter, is_name_byte, is_not, IsSpan, IsNamed}
use Rattle.elem_text.specs.References.{decoded}
use Rattle.elem_text.specs.Tree.{Piece, opens, closes, hollow, run, skip}
use Rattle.elem_text.specs.Grammar.{IsAttr, Attributes, tail_of, IsStartTag, IsEndTag, IsComment, IsInstruction, IsRun, IsLex, behind_comment, behind_instruction}
use Rattle.elem_text.specs.Flaws.{APiece}
use Rattle.elem_text.specs.Refusals.{IsCut}
use Rattle.elem_text.proofs.Classes.{letter_47, letter_33, letter_63}
use Rattle.elem_text.proofs.Spans.{heads, tails, same_span, span_more, named_more, begun_by}
use Rattle.elem_text.proofs.Attrs.{attr_more, attr_some, one_attr, attr_letter, tail_first, attr_same}
use Rattle.elem_text.proofs.Flawed.{named_begins}
use Rattle.elem_text.proofs.PieceFlaws.{no_run}

append_none : (f r : List ℕ) → f ++ r ≡ [] → r ≡ []
append_none [] r e = e
append_none (x ∷ f) r e = absurd (begun_by x [] (f ++ r) (x ∷ (f ++ r)) refl e)

attributes_some : (before : List Attr) (b : List ℕ) (attrs : List Attr) (x : List ℕ) → Attributes before b attrs x → (x ≡ [] → ⊥) → b ≡ [] → ⊥
attributes_some before b [] x a n e = n (append_none a.0 x (sym a.1.spelled ∙ e))
attributes_some before b (y ∷ attrs) x a n e = attr_some a.1 y.name a.2 a.3 a.6 (append_none a.0 a.1 (sym a.4.spelled ∙ e))

attributes_more : (before : List Attr) (b : List ℕ) (attrs : List Attr) (x more : List ℕ) → Attributes before b attrs x → (x ≡ [] → ⊥) → Attributes before (b ++ more) attrs (x ++ more)
attributes_more before b [] x more a n = (a.0, span_more is_white b a.0 x more a.1 n)
attributes_more before b (y ∷ attrs) x more a n = (
  a.0,
  a.1 ++ more,
  a.2,
  a.3 ++ more,
  span_more is_white b a.0 a.1 more a.4 (attr_some a.1 y.name a.2 a.3 a.6),
  a.5,
  attr_more a.1 y.name a.2 a.3 more a.6,
  a.7,
  a.8,
  attributes_more (before ++ y ∷ []) a.3 attrs x more a.9 n,
)

tail_more : (empty : Bool) (rest more : List ℕ) → tail_of empty rest ++ more ≡ tail_of empty (rest ++ more)
tail_more false rest more = refl
tail_more true rest more = refl

tail_some : (empty : Bool) (rest : List ℕ) → tail_of empty rest ≡ [] → ⊥
tail_some false rest e = begun_by 62 [] rest (62 ∷ rest) refl e
tail_some true rest e = begun_by 47 [] (62 ∷ rest) (47 ∷ 62 ∷ rest) refl e

start_more : (b n : List ℕ) (attrs : List Attr) (empty : Bool) (rest more : List ℕ) → IsStartTag b n attrs empty rest → IsStartTag (b ++ more) n attrs empty (rest ++ more)
start_more b n attrs empty rest more t =
    let P : List ℕ → Type 0 = λ x. Attributes [] (t.behind ++ more) attrs x in
    record {
      inside = t.inside ++ more;
      behind = t.behind ++ more;
      angle = ap (λ l. l ++ more) t.angle;
      named = named_more t.inside n t.behind more t.named (attributes_some [] t.behind attrs (tail_of empty rest) t.attributes (tail_some empty rest));
      attributes = subst P (tail_more empty rest more) (attributes_more [] t.behind attrs (tail_of empty rest) more t.attributes (tail_some empty rest));
    }

end_more : (b n rest more : List ℕ) → IsEndTag b n rest → IsEndTag (b ++ more) n (rest ++ more)
end_more b n rest more t = record {
  inside = t.inside ++ more;
  behind = t.behind ++ more;
  gap = t.gap;
  angle = ap (λ l. l ++ more) t.angle;
  named = named_more t.inside n t.behind more t.named (begun_by 62 t.gap rest t.behind t.white.spelled);
  white = span_more is_white t.behind t.gap (62 ∷ rest) more t.white (begun_by 62 [] rest (62 ∷ rest) refl);
}

cond_more : (t : Bool) (x rest more : List ℕ) (o o' : Option (List ℕ)) → cond t (Some x) o ≡ Some rest → (o ≡ Some rest → o' ≡ Some (rest ++ more)) → cond t (Some (x ++ more)) o' ≡ Some (rest ++ more)
cond_more true x rest more o o' e h = let f : x ≡ rest = cc in ap (λ l. Some (l ++ more)) f
cond_more false x rest more o o' e h = h e

behind_comment_more : (s rest more : List ℕ) → behind_comment s ≡ Some rest → behind_comment (s ++ more) ≡ Some (rest ++ more)
behind_comment_more [] rest more e = cc
behind_comment_more (a ∷ []) rest more e = cc
behind_comment_more (a ∷ b ∷ []) rest more e = cc
behind_comment_more (a ∷ b ∷ c ∷ s) rest more e =
    cond_more (eqb c 62 && (eqb b 45 && eqb a 45)) s rest more (behind_comment (b ∷ c ∷ s)) (behind_comment (b ∷ c ∷ (s ++ more))) e (λ f. behind_comment_more (b ∷ c ∷ s) rest more f)

behind_instruction_more : (s rest more : List ℕ) → behind_instruction s ≡ Some rest → behind_instruction (s ++ more) ≡ Some (rest ++ more)
behind_instruction_more [] rest more e = cc
behind_instruction_more (a ∷ []) rest more e = cc
behind_instruction_more (a ∷ b ∷ s) rest more e =
    cond_more (eqb b 62 && eqb a 63) s rest more (behind_instruction (b ∷ s)) (behind_instruction (b ∷ (s ++ more))) e (λ f. behind_instruction_more (b ∷ s) rest more f)

-- a piece that begins with '<' is the same under more bytes
pub lex_more : (at : Place) (inside : List ℕ) (p : Piece) (rest more : List ℕ) → IsLex at (60 ∷ inside) p rest → IsLex at (60 ∷ (inside ++ more)) p (rest ++ more)
lex_more at inside (opens n a place) rest more l = (l.0, start_more (60 ∷ inside) n a false rest more l.1)
lex_more at inside (hollow n a place) rest more l = (l.0, start_more (60 ∷ inside) n a true rest more l.1)
lex_more at inside (closes n) rest more l = end_more (60 ∷ inside) n rest more l
lex_more at inside (run raw) rest more l = absurd (no_run inside raw rest l)
lex_more at inside skip rest more l = ⊎_elim
    (λ c. inl (record { inside = c.inside ++ more; mark = ap (λ l. l ++ more) c.mark; ends = behind_comment_more c.inside rest more c.ends }))
    (λ c. inr (record { inside = c.inside ++ more; mark = ap (λ l. l ++ more) c.mark; ends = behind_instruction_more c.inside rest more c.ends })) l

differ : (xs ys : List ℕ) → 62 ∷ xs ≡ 47 ∷ ys → ⊥
differ xs ys e = omega (arith, heads e)

one_tail : (e f : Bool) (r s : List ℕ) → tail_of e r ≡ tail_of f s → (e ≡ f) × (r ≡ s)
one_tail false false r s q = (refl, tails q)
one_tail true true r s q = (refl, tails (tails q))
one_tail false true r s q = absurd (differ r (62 ∷ s) q)
one_tail true false r s q = absurd (differ s (62 ∷ r) (sym q))

no_tail_attr : (b n raw after : List ℕ) (empty : Bool) (rest : List ℕ) → IsAttr b n raw after → b ≡ tail_of empty rest → ⊥
no_tail_attr [] n raw after empty rest a e = attr_some [] n raw after a refl
no_tail_attr (x ∷ b) n raw after empty rest a e = false≢true (sym (tail_first x b empty rest e) ∙ attr_letter x b n raw after a)

one_attributes : (before : List Attr) (b : List ℕ) (attrs attrs' : List Attr) (e e' : Bool) (r r' : List ℕ) → Attributes before b attrs (tail_of e r) → Attributes before b attrs' (tail_of e' r') →
    (attrs ≡ attrs') × (e ≡ e') × (r ≡ r')
one_attributes before b [] [] e e' r r' p q =
    let t = one_tail e e' r r' (same_span is_white b p.0 q.0 (tail_of e r) (tail_of e' r') p.1 q.1).1 in
    (refl, t.0, t.1)
one_attributes before b [] (y ∷ l) e e' r r' p q = absurd (no_tail_attr q.1 y.name q.2 q.3 e r q.6 (sym (same_span is_white b p.0 q.0 (tail_of e r) q.1 p.1 q.4).1))
one_attributes before b (x ∷ k) [] e e' r r' p q = absurd (no_tail_attr p.1 x.name p.2 p.3 e' r' p.6 (same_span is_white b p.0 q.0 p.1 (tail_of e' r') p.4 q.1).1)
one_attributes before b (x ∷ k) (y ∷ l) e e' r r' p q =
    let s = same_span is_white b p.0 q.0 p.1 q.1 p.4 q.4 in
    let P : List ℕ → Type 0 = λ t. IsAttr t y.name q.2 q.3 in
    let o = one_attr p.1 x.name p.2 p.3 y.name q.2 q.3 p.6 (subst P (sym s.1) q.6) in
    let same : x ≡ y = attr_same x y o.0 (p.7 ∙ (ap decoded o.1 ∙ sym q.7)) in
    let Q : Attr → Type 0 = λ z. Attributes (before ++ z ∷ []) q.3 l (tail_of e' r') in
    let R : List ℕ → Type 0 = λ t. Attributes (before ++ x ∷ []) t l (tail_of e' r') in
    let rec = one_attributes (before ++ x ∷ []) p.3 k l e e' r r' p.9 (subst R (sym o.2) (subst Q (sym same) q.9)) in
    (ap (λ (z : Attr). z ∷ k) same ∙ ap (λ (t : List Attr). y ∷ t) rec.0, rec.1, rec.2)

one_start : (b n : List ℕ) (a : List Attr) (e : Bool) (r n' : List ℕ) (a' : List Attr) (e' : Bool) (r' : List ℕ) → IsStartTag b n a e r → IsStartTag b n' a' e' r' →
    (n ≡ n') × (a ≡ a') × (e ≡ e') × (r ≡ r')
one_start b n a e r n' a' e' r' p q =
    let P : List ℕ → Type 0 = λ l. IsNamed l n' q.behind in
    let s = same_span is_name_byte p.inside n n' p.behind q.behind p.named.span (subst P (sym (tails (sym p.angle ∙ q.angle))) q.named).span in
    let Q : List ℕ → Type 0 = λ l. Attributes [] l a' (tail_of e' r') in
    let o = one_attributes [] p.behind a a' e e' r r' p.attributes (subst Q (sym s.1) q.attributes) in
    (s.0, o.0, o.1, o.2)

one_end : (b n r n' r' : List ℕ) → IsEndTag b n r → IsEndTag b n' r' → (n ≡ n') × (r ≡ r')
one_end b n r n' r' p q =
    let P : List ℕ → Type 0 = λ l. IsNamed l n' q.behind in
    let s = same_span is_name_byte p.inside n n' p.behind q.behind p.named.span (subst P (sym (tails (tails (sym p.angle ∙ q.angle)))) q.named).span in
    let Q : List ℕ → Type 0 = λ l. IsSpan is_white l q.gap (62 ∷ r') in
    (s.0, tails (same_span is_white p.behind p.gap q.gap (62 ∷ r) (62 ∷ r') p.white (subst Q (sym s.1) q.white)).1)

one_comment : (b r r' : List ℕ) → IsComment b r → IsComment b r' → r ≡ r'
one_comment b r r' p q =
    let i : p.inside ≡ q.inside = tails (tails (tails (tails (sym p.mark ∙ q.mark)))) in
    let e : Some r ≡ Some r' = sym p.ends ∙ (ap behind_comment i ∙ q.ends) in
    cc

one_instruction : (b r r' : List ℕ) → IsInstruction b r → IsInstruction b r' → r ≡ r'
one_instruction b r r' p q =
    let i : p.inside ≡ q.inside = tails (tails (sym p.mark ∙ q.mark)) in
    let e : Some r ≡ Some r' = sym p.ends ∙ (ap behind_instruction i ∙ q.ends) in
    cc

run_tag : (b t raw r : List ℕ) → b ≡ 60 ∷ t → IsRun b raw r → ⊥
run_tag b t raw r e k = let P : List ℕ → Type 0 = λ l. IsRun l raw r in no_run t raw r (subst P e k)

start_mark : (x : ℕ) (b t n : List ℕ) (a : List Attr) (e : Bool) (r : List ℕ) → is_letter x ≡ false → b ≡ 60 ∷ x ∷ t → IsStartTag b n a e r → ⊥
start_mark x b t n a e r f m k =
    let P : List ℕ → Type 0 = λ l. IsNamed l n k.behind in
    false≢true (sym f ∙ named_begins x t n k.behind (subst P (tails (sym k.angle ∙ m)) k.named))

marks : (x y : ℕ) (b t u : List ℕ) → b ≡ 60 ∷ x ∷ t → b ≡ 60 ∷ y ∷ u → x ≡ y
marks x y b t u p q = heads (tails (sym p ∙ q))

skip_angle : (b r : List ℕ) → IsComment b r ⊎ IsInstruction b r → (t : List ℕ) × (b ≡ 60 ∷ t)
skip_angle b r (inl c) = (33 ∷ 45 ∷ 45 ∷ c.inside, c.mark)
skip_angle b r (inr c) = (63 ∷ c.inside, c.mark)

skip_start : (b r n : List ℕ) (a : List Attr) (e : Bool) (s : List ℕ) → IsComment b r ⊎ IsInstruction b r → IsStartTag b n a e s → ⊥
skip_start b r n a e s (inl c) k = start_mark 33 b (45 ∷ 45 ∷ c.inside) n a e s letter_33 c.mark k
skip_start b r n a e s (inr c) k = start_mark 63 b c.inside n a e s letter_63 c.mark k

skip_end : (b r n s : List ℕ) → IsComment b r ⊎ IsInstruction b r → IsEndTag b n s → ⊥
skip_end b r n s (inl c) k = omega (arith, marks 33 47 b (45 ∷ 45 ∷ c.inside) k.inside c.mark k.angle)
skip_end b r n s (inr c) k = omega (arith, marks 63 47 b c.inside k.inside c.mark k.angle)

one_skip : (b r s : List ℕ) → IsComment b r ⊎ IsInstruction b r → IsComment b s ⊎ IsInstruction b s → r ≡ s
one_skip b r s (inl c) (inl d) = one_comment b r s c d
one_skip b r s (inr c) (inr d) = one_instruction b r s c d
one_skip b r s (inl c) (inr d) = absurd (omega (arith, marks 33 63 b (45 ∷ 45 ∷ c.inside) d.inside c.mark d.mark))
one_skip b r s (inr c) (inl d) = absurd (omega (arith, marks 63 33 b c.inside (45 ∷ 45 ∷ d.inside) c.mark d.mark))

-- the bytes begin with one piece
pub one_lex : (at : Place) (b : List ℕ) (p q : Piece) (r s : List ℕ) → IsLex at b p r → IsLex at b q s → (p ≡ q) × (r ≡ s)
one_lex at b (opens n a x) (opens n' a' x') r s k l =
    let o = one_start b n a false r n' a' false s k.1 l.1 in
    let e : n ≡ n' = o.0 in let f : a ≡ a' = o.1 in let g : x ≡ x' = k.0 ∙ sym l.0 in (cc, o.3)
one_lex at b (opens n a x) (hollow n' a' x') r s k l = absurd (false≢true (one_start b n a false r n' a' true s k.1 l.1).2)
one_lex at b (opens n a x) (closes n') r s k l = absurd (start_mark 47 b l.inside n a false r letter_47 l.angle k.1)
one_lex at b (opens n a x) (run raw) r s k l = absurd (run_tag b k.1.inside raw s k.1.angle l)
one_lex at b (opens n a x) skip r s k l = absurd (skip_start b s n a false r l k.1)
one_lex at b (hollow n a x) (opens n' a' x') r s k l = absurd (false≢true (one_start b n' a' false s n a true r l.1 k.1).2)
one_lex at b (hollow n a x) (hollow n' a' x') r s k l =
    let o = one_start b n a true r n' a' true s k.1 l.1 in
    let e : n ≡ n' = o.0 in let f : a ≡ a' = o.1 in let g : x ≡ x' = k.0 ∙ sym l.0 in (cc, o.3)
one_lex at b (hollow n a x) (closes n') r s k l = absurd (start_mark 47 b l.inside n a true r letter_47 l.angle k.1)
one_lex at b (hollow n a x) (run raw) r s k l = absurd (run_tag b k.1.inside raw s k.1.angle l)
one_lex at b (hollow n a x) skip r s k l = absurd (skip_start b s n a true r l k.1)
one_lex at b (closes n) (opens n' a' x') r s k l = absurd (start_mark 47 b k.inside n' a' false s letter_47 k.angle l.1)
one_lex at b (closes n) (hollow n' a' x') r s k l = absurd (start_mark 47 b k.inside n' a' true s letter_47 k.angle l.1)
one_lex at b (closes n) (closes n') r s k l = let o = one_end b n r n' s k l in (ap closes o.0, o.1)
one_lex at b (closes n) (run raw) r s k l = absurd (run_tag b (47 ∷ k.inside) raw s k.angle l)
one_lex at b (closes n) skip r s k l = absurd (skip_end b s n r l k)
one_lex at b (run raw) (opens n a x) r s k l = absurd (run_tag b l.1.inside raw r l.1.angle k)
one_lex at b (run raw) (hollow n a x) r s k l = absurd (run_tag b l.1.inside raw r l.1.angle k)
one_lex at b (run raw) (closes n) r s k l = absurd (run_tag b (47 ∷ l.inside) raw r l.angle k)
one_lex at b (run raw) (run raw') r s k l = let o = same_span (is_not 60) b raw raw' r s k.span l.span in (ap run o.0, o.1)
one_lex at b (run raw) skip r s k l = let a = skip_angle b s l in absurd (run_tag b a.0 raw r a.1 k)
one_lex at b skip (opens n a x) r s k l = absurd (skip_start b r n a false s k l.1)
one_lex at b skip (hollow n a x) r s k l = absurd (skip_start b r n a true s k l.1)
one_lex at b skip (closes n) r s k l = absurd (skip_end b r n s k l)
one_lex at b skip (run raw) r s k l = let a = skip_angle b r k in absurd (run_tag b a.0 raw s a.1 l)
one_lex at b skip skip r s k l = (refl, one_skip b r s k l)

-- a piece at one place is a piece at any
pub lex_at : (at at' : Place) (b : List ℕ) (p : Piece) (rest : List ℕ) → IsLex at b p rest → (q : Piece) × IsLex at' b q rest
lex_at at at' b (opens n a x) rest l = (opens n a at', (refl, l.1))
lex_at at at' b (hollow n a x) rest l = (hollow n a at', (refl, l.1))
lex_at at at' b (closes n) rest l = (closes n, l)
lex_at at at' b (run raw) rest l = (run raw, l)
lex_at at at' b skip rest l = (skip, l)

-- what the end cuts off is no piece
pub is_cut : (at : Place) (b inside : List ℕ) → b ≡ 60 ∷ inside → (more : List ℕ) → 0 < length more → APiece (b ++ more) [] → IsCut at b
is_cut at b inside s more n a =
    let l = lex_at a.0 at (b ++ more) a.1 [] a.2 in (
      more,
      l.0,
      n,
      l.1,
      λ q rest k.
          let P : List ℕ → Type 0 = λ x. IsLex at x q rest in
          let Q : List ℕ → Type 0 = λ x. IsLex at x q (rest ++ more) in
          let longer : IsLex at (b ++ more) q (rest ++ more) = subst Q (ap (λ x. x ++ more) (sym s)) (lex_more at inside q rest more (subst P s k)) in
          let e : [] ≡ rest ++ more = (one_lex at (b ++ more) l.0 q [] (rest ++ more) l.1 longer).1 in
          omega (arith, n, ap length e, length-append rest more),
    )
