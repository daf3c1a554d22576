-- The pieces so far spell the open elements.
use Rattle.std.proofs.Common.{◌≡◌, ℕ, ◌≤◌, List, [], ◌∷◌, ◌++◌, length, refl, sym, ap, subst, ◌∙◌, arith, append-nil, append_assoc, length-append}
use Rattle.elem_text.specs.declared.elem.Elem.{Elem}
use Rattle.elem_text.specs.declared.stack.Frame.{Frame}
use Rattle.elem_text.specs.Bytes.{AreAll, is_white}
use Rattle.elem_text.specs.References.{decoded}
use Rattle.elem_text.specs.Tree.{Piece, opens, closes, hollow, run, skip, Content, nothing, words, passed, leaf, node, elem, joined, AreWhite, IsDocument}
use Rattle.elem_text.specs.Stack.{Stack, with_kid, with_text, HasRoom, MayHold, IsAllowed, AreAllowed, next, after, closed, outside, IsFinished}

pub content_append : (ps qs : List Piece) (rs ts : List (List ℕ)) (ks ls : List Elem) → Content ps rs ks → Content qs ts ls → Content (ps ++ qs) (rs ++ ts) (ks ++ ls)
content_append _ qs _ ts _ ls nothing d = d
content_append _ qs _ ts _ ls (words raw ps rs ks c) d = words raw (ps ++ qs) (rs ++ ts) (ks ++ ls) (content_append ps qs rs ts ks ls c d)
content_append _ qs _ ts _ ls (passed ps rs ks c) d = passed (ps ++ qs) (rs ++ ts) (ks ++ ls) (content_append ps qs rs ts ks ls c d)
content_append _ qs _ ts _ ls (leaf n a at ps rs ks c) d = leaf n a at (ps ++ qs) (rs ++ ts) (ks ++ ls) (content_append ps qs rs ts ks ls c d)
content_append _ qs _ ts _ ls (node n a at inner own below ps rs ks ci c) d =
    let P : List Piece → Type 0 = λ l. Content (opens n a at ∷ l) (rs ++ ts) (elem n a (joined own) below at ∷ (ks ++ ls)) in
    subst P (sym (append_assoc inner (closes n ∷ ps) qs)) (node n a at inner own below (ps ++ qs) (rs ++ ts) (ks ++ ls) ci (content_append ps qs rs ts ks ls c d))

pub joined_append : (rs ts : List (List ℕ)) → joined (rs ++ ts) ≡ joined rs ++ joined ts
joined_append [] ts = refl
joined_append (raw ∷ rs) ts = ap (λ l. decoded raw ++ l) (joined_append rs ts) ∙ sym (append_assoc (decoded raw) (joined rs) (joined ts))

pub white_append : (rs ts : List (List ℕ)) → AreWhite rs → AreWhite ts → AreWhite (rs ++ ts)
white_append [] ts a b = b
white_append (raw ∷ rs) ts a b = (a.0, white_append rs ts a.1 b)

-- an element with more text and more children
abbrev pub grown : Frame → List (List ℕ) → List Elem → Frame
grown f runs kids = record f { text = f.text ++ joined runs; kids = f.kids ++ kids }

pub grown_none : (f : Frame) → grown f [] [] ≡ f
grown_none f =
    let P : List ℕ → Type 0 = λ t. record f { text = t; kids = f.kids ++ [] } ≡ f in
    let Q : List Elem → Type 0 = λ k. record f { text = f.text; kids = k } ≡ f in
    subst P (sym (append-nil f.text)) (subst Q (sym (append-nil f.kids)) refl)

grown_kid : (f : Frame) (e : Elem) → grown f [] (e ∷ []) ≡ with_kid f e
grown_kid f e = let t : f.text ++ [] ≡ f.text = append-nil f.text in cc

grown_text : (f : Frame) (raw : List ℕ) → grown f (raw ∷ []) [] ≡ with_text f raw
grown_text f raw = let t : decoded raw ++ [] ≡ decoded raw = append-nil (decoded raw) in let k : f.kids ++ [] ≡ f.kids = append-nil f.kids in cc

-- the pieces spell the innermost open element, those around it, and what stands before
abbrev pub IsBehind : Frame → List Frame → List Piece → Type 0
IsBehind f [] ps = (runs : List (List ℕ)) × Content ps runs f.kids × AreWhite runs × (length f.kids ≤ 1)
IsBehind f (g ∷ gs) ps =
    (before body : List Piece) × (runs : List (List ℕ)) × (ps ≡ before ++ opens f.name f.attrs f.place ∷ body) × Content body runs f.kids
    × (f.text ≡ joined runs) × HasRoom g gs × IsBehind g gs before

-- what may be added to the file itself
abbrev pub MayGrow : Frame → List Frame → List (List ℕ) → List Elem → Type 0
MayGrow f [] runs kids = AreWhite runs × (length (f.kids ++ kids) ≤ 1)
MayGrow f (g ∷ gs) runs kids = Unit {0}

grows : (f : Frame) (gs : List Frame) (ps qs : List Piece) (ts : List (List ℕ)) (ks : List Elem) → IsBehind f gs ps → Content qs ts ks → MayGrow f gs ts ks →
    IsBehind (grown f ts ks) gs (ps ++ qs)
grows f [] ps qs ts ks b c m = (b.0 ++ ts, content_append ps qs b.0 ts f.kids ks b.1 c, white_append b.0 ts b.2 m.0, m.1)
grows f (g ∷ gs) ps qs ts ks b c m = (
  b.0,
  b.1 ++ qs,
  b.2 ++ ts,
  ap (λ l. l ++ qs) b.3 ∙ append_assoc b.0 (opens f.name f.attrs f.place ∷ b.1) qs,
  content_append b.1 qs b.2 ts f.kids ks b.4 c,
  ap (λ l. l ++ joined ts) b.5 ∙ sym (joined_append b.2 ts),
  b.6,
  b.7,
)

room_for : (f : Frame) (gs : List Frame) (e : Elem) → HasRoom f gs → MayGrow f gs [] (e ∷ [])
room_for f [] e h = (tt, omega (arith, ap length h, length-append f.kids (e ∷ [])))
room_for f (g ∷ gs) e h = tt

one_still : (f : Frame) (gs : List Frame) (ps : List Piece) (ts : List (List ℕ)) → IsBehind f gs ps → (gs ≡ [] → AreWhite ts) → MayGrow f gs ts []
one_still f [] ps ts b h = (h refl, omega (arith, b.3, length-append f.kids []))
one_still f (g ∷ gs) ps ts b h = tt

-- one piece more
pub behind_next : (f : Frame) (gs : List Frame) (ps : List Piece) (p : Piece) → IsBehind f gs ps → IsAllowed (record { top = f; below = gs }) p →
    let s : Stack = next (record { top = f; below = gs }) p in IsBehind s.top s.below (ps ++ p ∷ [])
behind_next f gs ps (opens n a at) b h = (ps, [], [], refl, nothing, refl, h, b)
behind_next f gs ps (hollow n a at) b h =
    let e = elem n a [] [] at in
    let P : Frame → Type 0 = λ x. IsBehind x gs (ps ++ hollow n a at ∷ []) in
    subst P (grown_kid f e) (grows f gs ps (hollow n a at ∷ []) [] (e ∷ []) b (leaf n a at [] [] [] nothing) (room_for f gs e h))
behind_next f [] ps (closes n) b h = absurd h
behind_next f (g ∷ gs) ps (closes n) b h =
    let e = closed f in
    let body = b.1 in
    let whole : Content (opens f.name f.attrs f.place ∷ (body ++ closes f.name ∷ [])) [] (elem f.name f.attrs (joined b.2) f.kids f.place ∷ []) =
    node f.name f.attrs f.place body b.2 f.kids [] [] [] b.4 nothing in
    let P : List ℕ → Type 0 = λ t. Content (opens f.name f.attrs f.place ∷ (body ++ closes f.name ∷ [])) [] (elem f.name f.attrs t f.kids f.place ∷ []) in
    let whole' : Content (opens f.name f.attrs f.place ∷ (body ++ closes f.name ∷ [])) [] (e ∷ []) = subst P (sym b.5) whole in
    let Q : Frame → Type 0 = λ x. IsBehind x gs (b.0 ++ opens f.name f.attrs f.place ∷ (body ++ closes f.name ∷ [])) in
    let there : IsBehind (with_kid g e) gs (b.0 ++ opens f.name f.attrs f.place ∷ (body ++ closes f.name ∷ [])) =
    subst Q (grown_kid g e) (grows g gs b.0 (opens f.name f.attrs f.place ∷ (body ++ closes f.name ∷ [])) [] (e ∷ []) b.7 whole' (room_for g gs e b.6)) in
    let spelled : b.0 ++ opens f.name f.attrs f.place ∷ (body ++ closes f.name ∷ []) ≡ ps ++ closes n ∷ [] =
    sym (append_assoc b.0 (opens f.name f.attrs f.place ∷ body) (closes f.name ∷ [])) ∙ (ap (λ l. l ++ closes f.name ∷ []) (sym b.3) ∙ ap (λ x. ps ++ closes x ∷ []) (sym h)) in
    let R : List Piece → Type 0 = λ l. IsBehind (with_kid g e) gs l in
    subst R spelled there
behind_next f gs ps (run raw) b h =
    let P : Frame → Type 0 = λ x. IsBehind x gs (ps ++ run raw ∷ []) in
    subst P (grown_text f raw) (grows f gs ps (run raw ∷ []) (raw ∷ []) [] b (words raw [] [] [] nothing) (one_still f gs ps (raw ∷ []) b (λ e. (held gs e h, tt))))
  where
    held : (gs : List Frame) → gs ≡ [] → MayHold gs raw → AreAll is_white raw
    held [] e h = h
    held (g ∷ gs) e h = absurd cc
behind_next f gs ps skip b h =
    let P : Frame → Type 0 = λ x. IsBehind x gs (ps ++ skip ∷ []) in
    subst P (grown_none f) (grows f gs ps (skip ∷ []) [] [] b (passed [] [] [] nothing) (one_still f gs ps [] b (λ e. tt)))

pub behind_all : (s : Stack) (before ps : List Piece) → IsBehind s.top s.below before → AreAllowed s ps →
    IsBehind (after s ps).top (after s ps).below (before ++ ps)
behind_all s before [] b a =
    let P : List Piece → Type 0 = λ l. IsBehind s.top s.below l in subst P (sym (append-nil before)) b
behind_all s before (p ∷ ps) b a =
    let P : List Piece → Type 0 = λ l. IsBehind (after (next s p) ps).top (after (next s p) ps).below l in
    subst P (append_assoc before (p ∷ []) ps) (behind_all (next s p) (before ++ p ∷ []) ps (behind_next s.top s.below before p b a.0) a.1)

pub behind_start : (ps : List Piece) → AreAllowed outside ps → IsBehind (after outside ps).top (after outside ps).below ps
behind_start ps a = behind_all outside [] ps ([], nothing, tt, omega arith) a

-- where only the file is open, the pieces are one
pub finished : (ps : List Piece) (e : Elem) → AreAllowed outside ps → IsFinished (after outside ps) e → IsDocument ps e
finished ps e a h = document (after outside ps).top (after outside ps).below (behind_start ps a) h.0 h.1 h.2
  where
    one : (kids all : List Elem) → all ≡ kids ++ e ∷ [] → length all ≤ 1 → all ≡ e ∷ []
    one [] all q l = q
    one (k ∷ kids) all q l = absurd (omega (arith, ap length q, length-append kids (e ∷ [])))

    document : (f : Frame) (gs : List Frame) → IsBehind f gs ps → gs ≡ [] → (kids : List Elem) → f.kids ≡ kids ++ e ∷ [] → IsDocument ps e
    document f [] b n kids k =
        let P : List Elem → Type 0 = λ l. Content ps b.0 l in
        record { around = b.0; white = b.2; content = subst P (one kids f.kids k b.3) b.1 }
    document f (g ∷ gs) b n kids k = absurd cc
