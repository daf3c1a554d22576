-- A file has one element or one place where it breaks, and no file that breaks is spelled or too deep.
use Rattle.std.proofs.Common.{◌≡◌, ℕ, List, [], ◌∷◌, ◌++◌, length, refl, sym, ap, subst, ◌∙◌, arith, append-nil, append_assoc, length-append, inl, inr, ◌⊎◌}
use Rattle.std.proofs.lemmas.List.{append_cancel_right}
use Rattle.vtr_base.specs.declared.place.Place.{Place}
use Rattle.elem_text.specs.declared.elem.Elem.{Elem}
use Rattle.elem_text.specs.Bytes.{place_after}
use Rattle.elem_text.specs.Tree.{Piece, IsDocument, Fits}
use Rattle.elem_text.specs.Grammar.{IsLex, Reads, IsFile, Spells, body, body_place}
use Rattle.elem_text.specs.Stack.{Stack, outside, after}
use Rattle.elem_text.specs.Refusals.{IsBad, AreShallow, Fails, wrong, unread, cut, short, BreaksFrom, DeepensFrom}
use Rattle.elem_text.proofs.Stacks.{grown}
use Rattle.elem_text.proofs.Complete.{complete, shallow_front}
use Rattle.elem_text.proofs.OneLex.{one_lex}
use Rattle.elem_text.proofs.Along.{lex_front}

no_lex : (at : Place) (b : List ℕ) (p : Piece) (later : List ℕ) → b ≡ [] → IsLex at b p later → ⊥
no_lex at b p later e l = let f = lex_front at b p later l in omega (arith, f.some, ap length (sym f.spelled ∙ e), length-append f.front later)

-- of two readings of the same bytes one goes on from the other
abbrev Meets : Place → List ℕ → List Piece → Place → List ℕ → List Piece → Place → List ℕ → Type 0
Meets at b ps end rest qs end' rest' =
    ((k : List Piece) × (qs ≡ ps ++ k) × Reads end rest k end' rest') ⊎ ((k : List Piece) × (ps ≡ qs ++ k) × Reads end' rest' k end rest)

meets : (at : Place) (b : List ℕ) (ps : List Piece) (end : Place) (rest : List ℕ) (qs : List Piece) (end' : Place) (rest' : List ℕ) → Reads at b ps end rest → Reads at b qs end' rest' →
    Meets at b ps end rest qs end' rest'
meets at b [] end rest qs end' rest' r s =
    let P : Place → Type 0 = λ x. Reads x rest qs end' rest' in
    let Q : List ℕ → Type 0 = λ x. Reads at x qs end' rest' in
    inl (qs, refl, subst P (sym r.0) (subst Q (sym r.1) s))
meets at b (p ∷ ps) end rest [] end' rest' r s =
    let P : Place → Type 0 = λ x. Reads x rest' (p ∷ ps) end rest in
    let Q : List ℕ → Type 0 = λ x. Reads at x (p ∷ ps) end rest in
    inr (p ∷ ps, refl, subst P (sym s.0) (subst Q (sym s.1) r))
meets at b (p ∷ ps) end rest (q ∷ qs) end' rest' r s =
    let o = one_lex at b p q r.1 s.1 r.3 s.3 in
    let f : r.0 ≡ s.0 = append_cancel_right r.0 s.0 r.1 (sym r.2 ∙ (s.2 ∙ ap (λ l. s.0 ++ l) (sym o.1))) in
    let P : Place → Type 0 = λ x. Reads x r.1 qs end' rest' in
    let Q : List ℕ → Type 0 = λ x. Reads (place_after at s.0) x qs end' rest' in
    longer (meets (place_after at r.0) r.1 ps end rest qs end' rest' r.4 (subst P (ap (place_after at) (sym f)) (subst Q (sym o.1) s.4))) o.0
  where
    longer : Meets (place_after at r.0) r.1 ps end rest qs end' rest' → p ≡ q → Meets at b (p ∷ ps) end rest (q ∷ qs) end' rest'
    longer (inl m) e = inl (m.0, ap (λ x. x ∷ qs) (sym e) ∙ ap (λ l. p ∷ l) m.1, m.2)
    longer (inr m) e = inr (m.0, ap (λ x. x ∷ ps) e ∙ ap (λ l. q ∷ l) m.1, m.2)

reads_nothing : (at : Place) (b : List ℕ) (k : List Piece) (end : Place) (rest : List ℕ) → b ≡ [] → Reads at b k end rest → k ≡ []
reads_nothing at b [] end rest e r = refl
reads_nothing at b (p ∷ k) end rest e r = absurd (no_lex at b p r.1 e r.3)

one_document : (ps : List Piece) (e e' : Elem) → IsDocument ps e → IsDocument ps e' → e ≡ e'
one_document ps e e' d d' =
    let s : record { top = grown outside.top d.around (e ∷ []); below = [] } ≡ after outside ps = sym (complete ps e d).to in
    let t : after outside ps ≡ record { top = grown outside.top d'.around (e' ∷ []); below = [] } = (complete ps e' d').to in
    let k : e ∷ [] ≡ e' ∷ [] = ap (λ (x : Stack). x.top.kids) (s ∙ t) in
    cc

same_pieces : (start : Place) (b : List ℕ) (ps qs : List Piece) (end end' : Place) → Reads start b ps end [] → Reads start b qs end' [] → ps ≡ qs
same_pieces start b ps qs end end' r s = by_meets (meets start b ps end [] qs end' [] r s)
  where
    by_meets : Meets start b ps end [] qs end' [] → ps ≡ qs
    by_meets (inl m) = sym (m.1 ∙ (ap (λ l. ps ++ l) (reads_nothing end [] m.0 end' [] refl m.2) ∙ append-nil ps))
    by_meets (inr m) = m.1 ∙ (ap (λ l. qs ++ l) (reads_nothing end' [] m.0 end [] refl m.2) ∙ append-nil qs)

one_file : (start : Place) (b : List ℕ) (e e' : Elem) → IsFile start b e → IsFile start b e' → e ≡ e'
one_file start b e e' f g =
    let P : List Piece → Type 0 = λ l. IsDocument l e' in
    one_document f.ps e e' f.document (subst P (sym (same_pieces start b f.ps g.ps f.end g.end f.reads g.reads)) g.document)

pub one_element : (bytes : List ℕ) (a b : Elem) → Spells bytes a → Spells bytes b → a ≡ b
one_element bytes a b s t = one_file (body_place bytes) (body bytes) a b s.file t.file

bad_now : (at : Place) (rest : List ℕ) (q : Piece) (later : List ℕ) → IsBad at rest → IsLex at rest q later → ⊥
bad_now at rest q later h l = let P : List ℕ → Type 0 = λ x. IsLex at x q later in h [] q later (subst P (sym (append-nil rest)) l)

fits_front : (ps k : List Piece) → Fits (ps ++ k) → Fits ps
fits_front ps k f =
    let P : List Piece → Type 0 = λ l. IsDocument l f.root in
    record { more = k ++ f.more; root = f.root; document = subst P (append_assoc ps k f.more) f.document }

-- nothing fits behind what fails
fails_last : (ps : List Piece) (at : Place) (rest : List ℕ) (place : Place) (q : Piece) (k : List Piece) (later : List ℕ) → Fails ps at rest place → IsLex at rest q later → Fits (ps ++ q ∷ k) → ⊥
fails_last ps at rest _ q k later (wrong p behind l n) m f =
    let e : p ≡ q = (one_lex at rest p q behind later l m).0 in
    let P : List Piece → Type 0 = λ x. Fits x in
    let Q : Piece → Type 0 = λ x. Fits (ps ++ x ∷ []) in
    n (subst Q (sym e) (fits_front (ps ++ q ∷ []) k (subst P (sym (append_assoc ps (q ∷ []) k)) f)))
fails_last ps at rest _ q k later (unread ne bad) m f = bad_now at rest q later bad m
fails_last ps at rest _ q k later (cut ne c) m f = c.4 q later m
fails_last ps at rest _ q k later (short e n) m f = no_lex at rest q later e m

fits_of : (ps : List Piece) (e : Elem) → IsDocument ps e → Fits ps
fits_of ps e d = let P : List Piece → Type 0 = λ l. IsDocument l e in record { more = []; root = e; document = subst P (sym (append-nil ps)) d }

-- where the file ends, only this fails: that it ends too early
fails_end : (ps : List Piece) (at : Place) (rest : List ℕ) (place : Place) (e : Elem) → Fails ps at rest place → rest ≡ [] → IsDocument ps e → ⊥
fails_end ps at rest _ e (wrong p behind l n) r d = no_lex at rest p behind r l
fails_end ps at rest _ e (unread ne bad) r d = ne r
fails_end ps at rest _ e (cut ne c) r d = ne r
fails_end ps at rest _ e (short n h) r d = h e d

breaks_no_file : (start : Place) (b : List ℕ) (place : Place) (e : Elem) → BreaksFrom start b place → IsFile start b e → ⊥
breaks_no_file start b place e x f = by_meets (meets start b x.ps x.at x.rest f.ps f.end [] x.reads f.reads)
  where
    ended : f.ps ≡ x.ps → x.rest ≡ [] → ⊥
    ended s r = let P : List Piece → Type 0 = λ l. IsDocument l e in fails_end x.ps x.at x.rest place e x.fails r (subst P s f.document)

    on : (k : List Piece) → f.ps ≡ x.ps ++ k → Reads x.at x.rest k f.end [] → ⊥
    on [] s r = ended (s ∙ append-nil x.ps) (sym r.1)
    on (q ∷ k) s r =
        let P : List Piece → Type 0 = λ l. Fits l in
        fails_last x.ps x.at x.rest place q k r.1 x.fails r.3 (subst P s (fits_of f.ps e f.document))

    by_meets : Meets start b x.ps x.at x.rest f.ps f.end [] → ⊥
    by_meets (inl m) = on m.0 m.1 m.2
    by_meets (inr m) =
        let n = reads_nothing f.end [] m.0 x.at x.rest refl m.2 in
        let P : List Piece → Type 0 = λ l. Reads f.end [] l x.at x.rest in
        ended (sym (m.1 ∙ (ap (λ l. f.ps ++ l) n ∙ append-nil f.ps))) (subst P n m.2).1

pub breaks_or_spelled : (bytes : List ℕ) (place : Place) (e : Elem) → BreaksFrom (body_place bytes) (body bytes) place → Spells bytes e → ⊥
breaks_or_spelled bytes place e b s = breaks_no_file (body_place bytes) (body bytes) place e b s.file

-- one failure at one place
one_failure : (ps : List Piece) (at : Place) (rest : List ℕ) (p q : Place) → Fails ps at rest p → Fails ps at rest q → p ≡ q
one_failure ps at rest _ _ (wrong p b l n) (wrong p' b' l' n') = refl
one_failure ps at rest _ _ (wrong p b l n) (unread ne bad) = refl
one_failure ps at rest _ _ (wrong p b l n) (cut ne c) = absurd (c.4 p b l)
one_failure ps at rest _ _ (wrong p b l n) (short e h) = refl
one_failure ps at rest _ _ (unread ne bad) (wrong p b l n) = refl
one_failure ps at rest _ _ (unread ne bad) (unread ne' bad') = refl
one_failure ps at rest _ _ (unread ne bad) (cut ne' c) = absurd (bad c.0 c.1 [] c.3)
one_failure ps at rest _ _ (unread ne bad) (short e h) = refl
one_failure ps at rest _ _ (cut ne c) (wrong p b l n) = absurd (c.4 p b l)
one_failure ps at rest _ _ (cut ne c) (unread ne' bad) = absurd (bad c.0 c.1 [] c.3)
one_failure ps at rest _ _ (cut ne c) (cut ne' c') = refl
one_failure ps at rest _ _ (cut ne c) (short e h) = absurd (ne e)
one_failure ps at rest _ _ (short e h) (wrong p b l n) = refl
one_failure ps at rest _ _ (short e h) (unread ne bad) = refl
one_failure ps at rest _ _ (short e h) (cut ne c) = absurd (ne e)
one_failure ps at rest _ _ (short e h) (short e' h') = refl

failure_on : (start : Place) (b : List ℕ) (p q : Place) (x : BreaksFrom start b p) (y : BreaksFrom start b q) (k : List Piece) → y.ps ≡ x.ps ++ k → Reads x.at x.rest k y.at y.rest → p ≡ q
failure_on start b p q x y [] s r =
    let P : List Piece → Type 0 = λ l. Fails l y.at y.rest q in
    let Q : Place → Type 0 = λ a. Fails x.ps a y.rest q in
    let R : List ℕ → Type 0 = λ l. Fails x.ps x.at l q in
    one_failure x.ps x.at x.rest p q x.fails (subst R r.1 (subst Q r.0 (subst P (s ∙ append-nil x.ps) y.fails)))
failure_on start b p q x y (z ∷ k) s r =
    let P : List Piece → Type 0 = λ l. Fits l in
    absurd (fails_last x.ps x.at x.rest p z k r.1 x.fails r.3 (subst P s y.fits))

pub one_place : (start : Place) (b : List ℕ) (p q : Place) → BreaksFrom start b p → BreaksFrom start b q → p ≡ q
one_place start b p q x y = by_meets (meets start b x.ps x.at x.rest y.ps y.at y.rest x.reads y.reads)
  where
    by_meets : Meets start b x.ps x.at x.rest y.ps y.at y.rest → p ≡ q
    by_meets (inl m) = failure_on start b p q x y m.0 m.1 m.2
    by_meets (inr m) = sym (failure_on start b q p y x m.0 m.1 m.2)

-- pieces that are read past a piece that is too deep are too deep
deeper : (start : Place) (b : List ℕ) (d : DeepensFrom start b) (ps k : List Piece) (end : Place) (rest : List ℕ) → ps ≡ d.ps ++ k → Reads d.at d.rest k end rest → AreShallow 0 ps →
    (k ≡ [] → ⊥) → ⊥
deeper start b d ps [] end rest s r a n = n refl
deeper start b d ps (q ∷ k) end rest s r a n =
    let e : d.piece ≡ q = (one_lex d.at d.rest d.piece q d.behind r.1 d.lex r.3).0 in
    let P : List Piece → Type 0 = λ l. AreShallow 0 l in
    let Q : Piece → Type 0 = λ x. AreShallow 0 (d.ps ++ x ∷ []) in
    d.deep (subst Q (sym e) (shallow_front 0 (d.ps ++ q ∷ []) k (subst P (s ∙ sym (append_assoc d.ps (q ∷ []) k)) a)))

pub breaks_or_deep : (start : Place) (b : List ℕ) (place : Place) → BreaksFrom start b place → DeepensFrom start b → ⊥
breaks_or_deep start b place x d = by_meets (meets start b x.ps x.at x.rest d.ps d.at d.rest x.reads d.reads)
  where
    -- the deep piece is read where the grammar fails, or behind
    on : (k : List Piece) → d.ps ≡ x.ps ++ k → Reads x.at x.rest k d.at d.rest → ⊥
    on [] s r =
        let P : Place → Type 0 = λ a. IsLex a d.rest d.piece d.behind in
        let Q : List ℕ → Type 0 = λ l. IsLex x.at l d.piece d.behind in
        let R : List Piece → Type 0 = λ l. Fits (l ++ d.piece ∷ []) in
        fails_last x.ps x.at x.rest place d.piece [] d.behind x.fails (subst Q r.1 (subst P r.0 d.lex)) (subst R (s ∙ append-nil x.ps) d.fits)
    on (q ∷ k) s r =
        let R : List Piece → Type 0 = λ l. Fits l in
        fails_last x.ps x.at x.rest place q k r.1 x.fails r.3 (subst R s (fits_front d.ps (d.piece ∷ []) d.fits))

    back : (k : List Piece) → x.ps ≡ d.ps ++ k → Reads d.at d.rest k x.at x.rest → ⊥
    back [] s r = on [] (sym (s ∙ append-nil d.ps) ∙ sym (append-nil x.ps)) (sym r.0, sym r.1)
    back (q ∷ k) s r = deeper start b d x.ps (q ∷ k) x.at x.rest s r x.shallow (λ e. nothing_else e)
      where
        nothing_else : q ∷ k ≡ [] → ⊥
        nothing_else e = cc

    by_meets : Meets start b x.ps x.at x.rest d.ps d.at d.rest → ⊥
    by_meets (inl m) = on m.0 m.1 m.2
    by_meets (inr m) = back m.0 m.1 m.2

-- a file whose pieces are not too deep isn't too deep
pub shallow_not_deep : (start : Place) (b : List ℕ) (ps : List Piece) (end : Place) → Reads start b ps end [] → AreShallow 0 ps → DeepensFrom start b → ⊥
shallow_not_deep start b ps end r a d = by_meets (meets start b ps end [] d.ps d.at d.rest r d.reads)
  where
    ended : d.rest ≡ [] → ⊥
    ended e = no_lex d.at d.rest d.piece d.behind e d.lex

    back : (k : List Piece) → ps ≡ d.ps ++ k → Reads d.at d.rest k end [] → ⊥
    back [] s r = ended (sym r.1)
    back (q ∷ k) s r = deeper start b d ps (q ∷ k) end [] s r a (λ e. nothing_else e)
      where
        nothing_else : q ∷ k ≡ [] → ⊥
        nothing_else e = cc

    by_meets : Meets start b ps end [] d.ps d.at d.rest → ⊥
    by_meets (inl m) =
        let n = reads_nothing end [] m.0 d.at d.rest refl m.2 in
        let P : List Piece → Type 0 = λ l. Reads end [] l d.at d.rest in
        ended (subst P n m.2).1
    by_meets (inr m) = back m.0 m.1 m.2
