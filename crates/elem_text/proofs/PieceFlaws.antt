-- Where a comment, an instruction or a tag breaks, or is cut off, as a piece of the file.
use Rattle.std.proofs.Common.{◌≡◌, ℕ, Bool, true, false, cond, List, [], ◌∷◌, ◌++◌, refl, sym, ap, subst, ◌∙◌, arith, inl, inr, ⊎_elim, Option, Some, None, eqb, ◌&&◌}
use Rattle.std.proofs.lemmas.Bool.{false≢true}
use Rattle.elem_text.specs.declared.elem.Attr.{Attr}
use Rattle.elem_text.specs.declared.lex.Flaw.{Flaw}
use Rattle.elem_text.specs.declared.lex.Flaw.TheVariants.{Cut, Bad, OutOfMemory}
use Rattle.elem_text.specs.Bytes.{is_letter, is_not, first_place, IsNamed}
use Rattle.elem_text.specs.Tree.{Piece, opens, closes, hollow, run, skip}
use Rattle.elem_text.specs.Grammar.{IsStartTag, IsRun, IsLex, behind_comment, behind_instruction}
use Rattle.elem_text.specs.Flaws.{IsFlawOf, IsEnded, AStartTag, AnEndTag, AComment, AnInstruction, APiece}
use Rattle.elem_text.proofs.Classes.{letter_47, letter_33, letter_63}
use Rattle.elem_text.proofs.Spans.{heads, tails, begun_by, is_not_same}
use Rattle.elem_text.proofs.Flawed.{flaw_map, named_begins}
use Rattle.elem_text.proofs.TagFlaws.{start_cut}

pub comment_ended1 : (b : List ℕ) → ((t : List ℕ) → b ≡ 45 ∷ t → ⊥) → (f : Flaw) → IsEnded f b → IsFlawOf AComment f b
comment_ended1 [] h Cut e = (45 ∷ 45 ∷ 45 ∷ 45 ∷ 62 ∷ [], omega arith, record { inside = 45 ∷ 45 ∷ 62 ∷ []; mark = refl; ends = refl })
comment_ended1 (x ∷ b) h Cut e = absurd (begun_by x [] b (x ∷ b) refl e)
comment_ended1 [] h Bad e = absurd (e refl)
comment_ended1 (x ∷ b) h Bad e = λ more rest c. h b (ap (λ y. y ∷ b) (heads (tails (tails c.mark))))
comment_ended1 b h OutOfMemory e = absurd e

pub comment_ended2 : (b first : List ℕ) → b ≡ 45 ∷ first → ((t : List ℕ) → first ≡ 45 ∷ t → ⊥) → (f : Flaw) → IsEnded f first → IsFlawOf AComment f b
comment_ended2 b first s h f e = let P : List ℕ → Type 0 = λ l. IsFlawOf AComment f l in subst P (sym s) (flaw first h f e)
  where
    flaw : (first : List ℕ) → ((t : List ℕ) → first ≡ 45 ∷ t → ⊥) → (f : Flaw) → IsEnded f first → IsFlawOf AComment f (45 ∷ first)
    flaw [] h Cut e = (45 ∷ 45 ∷ 45 ∷ 62 ∷ [], omega arith, record { inside = 45 ∷ 45 ∷ 62 ∷ []; mark = refl; ends = refl })
    flaw (x ∷ b) h Cut e = absurd (begun_by x [] b (x ∷ b) refl e)
    flaw [] h Bad e = absurd (e refl)
    flaw (x ∷ b) h Bad e = λ more rest c. h b (ap (λ y. y ∷ b) (heads (tails (tails (tails c.mark)))))
    flaw b h OutOfMemory e = absurd e

none_on : {X : Type 0} (t : Bool) (x : X) (o : Option X) → cond t (Some x) o ≡ None → (t ≡ false) × (o ≡ None)
none_on true x o e = absurd cc
none_on false x o e = (refl, e)

-- bytes with no end of a comment end at the end that is put behind them
comment_closing : (s : List ℕ) → behind_comment s ≡ None → behind_comment (s ++ 45 ∷ 45 ∷ 62 ∷ []) ≡ Some []
comment_closing [] e = refl
comment_closing (a ∷ []) e = refl
comment_closing (a ∷ b ∷ []) e = refl
comment_closing (a ∷ b ∷ c ∷ s) e =
    let n = none_on (eqb c 62 && (eqb b 45 && eqb a 45)) s (behind_comment (b ∷ c ∷ s)) e in
    let r : behind_comment (b ∷ c ∷ (s ++ 45 ∷ 45 ∷ 62 ∷ [])) ≡ Some [] = comment_closing (b ∷ c ∷ s) n.1 in
    rw n.0 r

pub comment_open : (b first second : List ℕ) → b ≡ 45 ∷ first → first ≡ 45 ∷ second → None ≡ behind_comment second → IsFlawOf AComment Cut b
comment_open b first second s t e =
    let m = 45 ∷ 45 ∷ 62 ∷ [] in (
      m,
      omega arith,
      record {
        inside = second ++ m;
        mark = ap (λ l. 60 ∷ 33 ∷ (l ++ m)) (s ∙ ap (λ l. 45 ∷ l) t);
        ends = comment_closing second (sym e);
      },
    )

instruction_closing : (s : List ℕ) → behind_instruction s ≡ None → behind_instruction (s ++ 63 ∷ 62 ∷ []) ≡ Some []
instruction_closing [] e = refl
instruction_closing (a ∷ []) e = refl
instruction_closing (a ∷ b ∷ s) e =
    let n = none_on (eqb b 62 && eqb a 63) s (behind_instruction (b ∷ s)) e in
    let r : behind_instruction (b ∷ (s ++ 63 ∷ 62 ∷ [])) ≡ Some [] = instruction_closing (b ∷ s) n.1 in
    rw n.0 r

pub instruction_open : (b : List ℕ) → None ≡ behind_instruction b → IsFlawOf AnInstruction Cut b
instruction_open b e = (63 ∷ 62 ∷ [], omega arith, record { inside = b ++ 63 ∷ 62 ∷ []; mark = refl; ends = instruction_closing b (sym e) })

-- the second byte tells which piece it is
pub no_run : (b raw rest : List ℕ) → IsRun (60 ∷ b) raw rest → ⊥
no_run b [] rest r = r.some refl
no_run b (y ∷ raw) rest r =
    let e : 60 ≡ y = heads r.span.spelled in
    false≢true (sym (is_not_same 60) ∙ (ap (is_not 60) e ∙ r.span.all.0))

no_start : (x : ℕ) (b n : List ℕ) (attrs : List Attr) (empty : Bool) (rest : List ℕ) → is_letter x ≡ false → IsStartTag (60 ∷ x ∷ b) n attrs empty rest → ⊥
no_start x b n attrs empty rest f t =
    let P : List ℕ → Type 0 = λ l. IsNamed l n t.behind in
    false≢true (sym f ∙ named_begins x b n t.behind (subst P (sym (tails t.angle)) t.named))

second : {x y : ℕ} {b c : List ℕ} → 60 ∷ x ∷ b ≡ 60 ∷ y ∷ c → x ≡ y
second e = heads (tails e)

pub piece_is_end : (b rest : List ℕ) → APiece (60 ∷ 47 ∷ b) rest → AnEndTag b rest
piece_is_end b rest l = by_piece l.1 l.2
  where
    by_piece : (p : Piece) → IsLex l.0 (60 ∷ 47 ∷ b) p rest → AnEndTag b rest
    by_piece (opens n a at) k = absurd (no_start 47 b n a false rest letter_47 k.1)
    by_piece (hollow n a at) k = absurd (no_start 47 b n a true rest letter_47 k.1)
    by_piece (closes n) k = (n, k)
    by_piece (run raw) k = absurd (no_run (47 ∷ b) raw rest k)
    by_piece skip k = ⊎_elim (λ c. absurd (omega (arith, second c.mark))) (λ c. absurd (omega (arith, second c.mark))) k

pub piece_is_comment : (b rest : List ℕ) → APiece (60 ∷ 33 ∷ b) rest → AComment b rest
piece_is_comment b rest l = by_piece l.1 l.2
  where
    by_piece : (p : Piece) → IsLex l.0 (60 ∷ 33 ∷ b) p rest → AComment b rest
    by_piece (opens n a at) k = absurd (no_start 33 b n a false rest letter_33 k.1)
    by_piece (hollow n a at) k = absurd (no_start 33 b n a true rest letter_33 k.1)
    by_piece (closes n) k = absurd (omega (arith, second k.angle))
    by_piece (run raw) k = absurd (no_run (33 ∷ b) raw rest k)
    by_piece skip k = ⊎_elim (λ c. c) (λ c. absurd (omega (arith, second c.mark))) k

pub piece_is_instruction : (b rest : List ℕ) → APiece (60 ∷ 63 ∷ b) rest → AnInstruction b rest
piece_is_instruction b rest l = by_piece l.1 l.2
  where
    by_piece : (p : Piece) → IsLex l.0 (60 ∷ 63 ∷ b) p rest → AnInstruction b rest
    by_piece (opens n a at) k = absurd (no_start 63 b n a false rest letter_63 k.1)
    by_piece (hollow n a at) k = absurd (no_start 63 b n a true rest letter_63 k.1)
    by_piece (closes n) k = absurd (omega (arith, second k.angle))
    by_piece (run raw) k = absurd (no_run (63 ∷ b) raw rest k)
    by_piece skip k = ⊎_elim (λ c. absurd (omega (arith, second c.mark))) (λ c. c) k

pub piece_is_start : (x : ℕ) (b rest : List ℕ) → (x ≡ 47 → ⊥) → (x ≡ 33 → ⊥) → (x ≡ 63 → ⊥) → APiece (60 ∷ x ∷ b) rest → AStartTag (x ∷ b) rest
piece_is_start x b rest h i j l = by_piece l.1 l.2
  where
    by_piece : (p : Piece) → IsLex l.0 (60 ∷ x ∷ b) p rest → AStartTag (x ∷ b) rest
    by_piece (opens n a at) k = (n, a, false, k.1)
    by_piece (hollow n a at) k = (n, a, true, k.1)
    by_piece (closes n) k = absurd (h (second k.angle))
    by_piece (run raw) k = absurd (no_run (x ∷ b) raw rest k)
    by_piece skip k = ⊎_elim (λ c. absurd (i (second c.mark))) (λ c. absurd (j (second c.mark))) k

pub flaw_by_end : (b r : List ℕ) → b ≡ 47 ∷ r → (f : Flaw) → IsFlawOf AnEndTag f r → IsFlawOf APiece f (60 ∷ b)
flaw_by_end b r s f h =
    let P : List ℕ → Type 0 = λ l. IsFlawOf APiece f (60 ∷ l) in
    subst P (sym s) (flaw_map AnEndTag APiece r (60 ∷ 47 ∷ r)
    (λ more l e. (more, l, (first_place, closes e.0, e.1)))
    (λ bad more rest p. bad more rest (piece_is_end (r ++ more) rest p)) f h)

pub flaw_by_comment : (b r : List ℕ) → b ≡ 33 ∷ r → (f : Flaw) → IsFlawOf AComment f r → IsFlawOf APiece f (60 ∷ b)
flaw_by_comment b r s f h =
    let P : List ℕ → Type 0 = λ l. IsFlawOf APiece f (60 ∷ l) in
    subst P (sym s) (flaw_map AComment APiece r (60 ∷ 33 ∷ r)
    (λ more l e. (more, l, (first_place, skip, inl e)))
    (λ bad more rest p. bad more rest (piece_is_comment (r ++ more) rest p)) f h)

pub flaw_by_instruction : (b r : List ℕ) → b ≡ 63 ∷ r → (f : Flaw) → IsFlawOf AnInstruction f r → IsFlawOf APiece f (60 ∷ b)
flaw_by_instruction b r s f h =
    let P : List ℕ → Type 0 = λ l. IsFlawOf APiece f (60 ∷ l) in
    subst P (sym s) (flaw_map AnInstruction APiece r (60 ∷ 63 ∷ r)
    (λ more l e. (more, l, (first_place, skip, inr e)))
    (λ bad more rest p. bad more rest (piece_is_instruction (r ++ more) rest p)) f h)

start_piece : (b n : List ℕ) (attrs : List Attr) (empty : Bool) (rest : List ℕ) → IsStartTag b n attrs empty rest → APiece b rest
start_piece b n attrs false rest t = (first_place, opens n attrs first_place, (refl, t))
start_piece b n attrs true rest t = (first_place, hollow n attrs first_place, (refl, t))

pub flaw_by_start : (b : List ℕ) → ((r : List ℕ) → b ≡ 47 ∷ r → ⊥) → ((r : List ℕ) → b ≡ 33 ∷ r → ⊥) → ((r : List ℕ) → b ≡ 63 ∷ r → ⊥) → (f : Flaw) → IsFlawOf AStartTag f b →
    IsFlawOf APiece f (60 ∷ b)
flaw_by_start b h i j f k = flaw_map AStartTag APiece b (60 ∷ b)
    (λ more l t. (more, l, start_piece (60 ∷ (b ++ more)) t.0 t.1 t.2 [] t.3))
    (λ bad more rest p. by_bytes b h i j bad more rest p) f k
  where
    by_bytes : (b : List ℕ) → ((r : List ℕ) → b ≡ 47 ∷ r → ⊥) → ((r : List ℕ) → b ≡ 33 ∷ r → ⊥) → ((r : List ℕ) → b ≡ 63 ∷ r → ⊥) →
        ((more rest : List ℕ) → AStartTag (b ++ more) rest → ⊥) → (more rest : List ℕ) → APiece (60 ∷ (b ++ more)) rest → ⊥
    by_bytes [] h i j bad more rest p = bad start_cut.0 [] start_cut.2
    by_bytes (x ∷ b) h i j bad more rest p =
        bad more rest (piece_is_start x (b ++ more) rest (λ e. h b (ap (λ y. y ∷ b) e)) (λ e. i b (ap (λ y. y ∷ b) e)) (λ e. j b (ap (λ y. y ∷ b) e)) p)
