-- The open elements take what is spelled, what they take can be finished, and what they refuse can't.
use Rattle.std.proofs.Common.{◌≡◌, ℕ, ◌≤◌, ◌+◌, ◌-◌, List, [], ◌∷◌, ◌++◌, length, refl, sym, ap, subst, ◌∙◌, arith, append-nil, append_assoc, length-append, inl, inr}
use Rattle.elem_text.specs.declared.elem.Elem.{Elem}
use Rattle.elem_text.specs.declared.stack.Frame.{Frame}
use Rattle.elem_text.specs.Bytes.{first_place}
use Rattle.elem_text.specs.References.{decoded}
use Rattle.elem_text.specs.Tree.{Piece, opens, closes, hollow, run, skip, Content, nothing, words, passed, leaf, node, elem, joined, AreWhite, IsDocument, Fits}
use Rattle.elem_text.specs.Stack.{Stack, frame, with_kid, with_text, HasRoom, MayHold, IsAllowed, AreAllowed, next, after, closed, close_top, outside, IsUnfinished, IsTooDeepFor, IsShallowFor}
use Rattle.elem_text.specs.Refusals.{AreShallow}
use Rattle.elem_text.proofs.Stacks.{grown, grown_none, MayGrow, IsBehind, behind_next, behind_start, content_append, white_append}

pub record Passes (s : Stack) (ps : List Piece) (s' : Stack) : Type 0 where
  pub allowed : AreAllowed s ps
  pub to : after s ps ≡ s'

pub allowed_append : (s : Stack) (ps qs : List Piece) → AreAllowed s ps → AreAllowed (after s ps) qs → AreAllowed s (ps ++ qs)
allowed_append s [] qs a b = b
allowed_append s (p ∷ ps) qs a b = (a.0, allowed_append (next s p) ps qs a.1 b)

pub after_append : (s : Stack) (ps qs : List Piece) → after s (ps ++ qs) ≡ after (after s ps) qs
after_append s [] qs = refl
after_append s (p ∷ ps) qs = after_append (next s p) ps qs

pub allowed_rest : (s : Stack) (ps qs : List Piece) → AreAllowed s (ps ++ qs) → AreAllowed (after s ps) qs
allowed_rest s [] qs a = a
allowed_rest s (p ∷ ps) qs a = allowed_rest (next s p) ps qs a.1

passes_append : (s t u : Stack) (ps qs : List Piece) → Passes s ps t → Passes t qs u → Passes s (ps ++ qs) u
passes_append s t u ps qs a b =
    let P : Stack → Type 0 = λ x. AreAllowed x qs in
    record { allowed = allowed_append s ps qs a.allowed (subst P (sym a.to) b.allowed); to = after_append s ps qs ∙ (ap (λ x. after x qs) a.to ∙ b.to) }

passes_one : (s t : Stack) (p : Piece) (ps : List Piece) → IsAllowed s p → Passes (next s p) ps t → Passes s (p ∷ ps) t
passes_one s t p ps h a = record { allowed = (h, a.allowed); to = a.to }

at_top : Frame → List Frame → Stack
at_top f gs = record { top = f; below = gs }

grow_word : (f : Frame) (gs : List Frame) (raw : List ℕ) (rs : List (List ℕ)) (ks : List Elem) → MayGrow f gs (raw ∷ rs) ks → MayHold gs raw × MayGrow (with_text f raw) gs rs ks
grow_word f [] raw rs ks m = (m.0.0, (m.0.1, m.1))
grow_word f (g ∷ gs) raw rs ks m = (tt, tt)

grow_kid : (f : Frame) (gs : List Frame) (rs : List (List ℕ)) (e : Elem) (ks : List Elem) → MayGrow f gs rs (e ∷ ks) → HasRoom f gs × MayGrow (with_kid f e) gs rs ks
grow_kid f [] rs e ks m = (none f.kids m.1, (m.0, omega (arith, m.1, ap length (append_assoc f.kids (e ∷ []) ks))))
  where
    none : (kids : List Elem) → length (kids ++ e ∷ ks) ≤ 1 → kids ≡ []
    none [] l = refl
    none (k ∷ kids) l = absurd (omega (arith, l, length-append kids (e ∷ ks)))
grow_kid f (g ∷ gs) rs e ks m = (tt, tt)

grown_word : (f : Frame) (raw : List ℕ) (rs : List (List ℕ)) (ks : List Elem) → grown (with_text f raw) rs ks ≡ grown f (raw ∷ rs) ks
grown_word f raw rs ks = ap (λ t. record f { text = t; kids = f.kids ++ ks }) (append_assoc f.text (decoded raw) (joined rs))

grown_more : (f : Frame) (e : Elem) (rs : List (List ℕ)) (ks : List Elem) → grown (with_kid f e) rs ks ≡ grown f rs (e ∷ ks)
grown_more f e rs ks = ap (λ (k : List Elem). record f { text = f.text ++ joined rs; kids = k }) (append_assoc f.kids (e ∷ []) ks)

passes_to : (s t u : Stack) (ps : List Piece) → Passes s ps t → t ≡ u → Passes s ps u
passes_to s t u ps a e = record { allowed = a.allowed; to = a.to ∙ e }

-- the open elements take what is spelled
pub passes : (ps : List Piece) (rs : List (List ℕ)) (ks : List Elem) → Content ps rs ks → (f : Frame) (gs : List Frame) → MayGrow f gs rs ks →
    Passes (record { top = f; below = gs }) ps (record { top = grown f rs ks; below = gs })
passes _ _ _ nothing f gs m = record { allowed = tt; to = ap (λ x. record { top = x; below = gs }) (sym (grown_none f)) }
passes _ _ _ (words raw ps rs ks c) f gs m =
    let w = grow_word f gs raw rs ks m in
    passes_one _ _ (run raw) ps w.0 (passes_to _ _ _ ps (passes ps rs ks c (with_text f raw) gs w.1) (ap (λ x. record { top = x; below = gs }) (grown_word f raw rs ks)))
passes _ _ _ (passed ps rs ks c) f gs m = passes_one _ _ skip ps tt (passes ps rs ks c f gs m)
passes _ _ _ (leaf n a at ps rs ks c) f gs m =
    let e = elem n a [] [] at in
    let k = grow_kid f gs rs e ks m in
    passes_one _ _ (hollow n a at) ps k.0 (passes_to _ _ _ ps (passes ps rs ks c (with_kid f e) gs k.1) (ap (λ x. record { top = x; below = gs }) (grown_more f e rs ks)))
passes _ _ _ (node n a at inner own below ps rs ks ci c) f gs m =
    let e = elem n a (joined own) below at in
    let k = grow_kid f gs rs e ks m in
    let after_kid = passes_to _ _ _ ps (passes ps rs ks c (with_kid f e) gs k.1) (ap (λ x. record { top = x; below = gs }) (grown_more f e rs ks)) in
    passes_one _ _ (opens n a at) (inner ++ closes n ∷ ps) k.0
    (passes_append _ _ _ inner (closes n ∷ ps) (passes inner own below ci (frame n a at) (f ∷ gs) tt)
    (passes_one _ _ (closes n) ps refl after_kid))

pub complete : (ps : List Piece) (e : Elem) (d : IsDocument ps e) → Passes outside ps (record { top = grown outside.top d.around (e ∷ []); below = [] })
complete ps e d = passes ps d.around (e ∷ []) d.content outside.top [] (d.white, omega arith)

-- what may not stand there is mended by nothing
pub stuck : (ps : List Piece) (p : Piece) → (IsAllowed (after outside ps) p → ⊥) → Fits (ps ++ p ∷ []) → ⊥
stuck ps p h f =
    let P : List Piece → Type 0 = λ l. AreAllowed outside l in
    let a = (complete ((ps ++ p ∷ []) ++ f.more) f.root f.document).allowed in
    h (allowed_rest outside ps (p ∷ f.more) (subst P (append_assoc ps (p ∷ []) f.more) a)).0

-- where the file ends too early there is no document
pub unfinished : (ps : List Piece) (e : Elem) → IsUnfinished (after outside ps) → IsDocument ps e → ⊥
unfinished ps e u d =
    let P : Stack → Type 0 = λ s. IsUnfinished s in
    not_now (joined d.around) (subst P (complete ps e d).to u)
  where
    not_now : (k : List ℕ) → IsUnfinished (record { top = record outside.top { text = k; kids = e ∷ [] }; below = [] }) → ⊥
    not_now k (inl n) = n refl
    not_now k (inr n) = cc

one_more : (ps : List Piece) (p : Piece) (more : List Piece) (e : Elem) → IsDocument ((ps ++ p ∷ []) ++ more) e → Fits ps
one_more ps p more e d =
    let P : List Piece → Type 0 = λ l. IsDocument l e in
    record { more = p ∷ more; root = e; document = subst P (append_assoc ps (p ∷ []) more) d }

-- what the open elements took can be finished
pub fits : (f : Frame) (gs : List Frame) (ps : List Piece) → IsBehind f gs ps → Fits ps
fits f [] ps b = by_kids f.kids b.1 b.3
  where
    a_root : Elem
    a_root = elem (97 ∷ []) [] [] [] first_place

    by_kids : (kids : List Elem) → Content ps b.0 kids → length kids ≤ 1 → Fits ps
    by_kids [] c l =
        let P : List (List ℕ) → Type 0 = λ r. AreWhite r in
        record {
          more = hollow (97 ∷ []) [] first_place ∷ [];
          root = elem (97 ∷ []) [] [] [] first_place;
          document = record {
            around = b.0 ++ [];
            white = white_append b.0 [] b.2 tt;
            content = content_append ps (hollow (97 ∷ []) [] first_place ∷ []) b.0 [] [] (elem (97 ∷ []) [] [] [] first_place ∷ []) c (leaf (97 ∷ []) [] first_place [] [] [] nothing);
          };
        }
    by_kids (e ∷ []) c l =
        let P : List Piece → Type 0 = λ x. Content x b.0 (e ∷ []) in
        record { more = []; root = e; document = record { around = b.0; white = b.2; content = subst P (sym (append-nil ps)) c } }
    by_kids (e ∷ k ∷ kids) c l = absurd (omega arith)
fits f (g ∷ gs) ps b =
    let r = fits (with_kid g (closed f)) gs (ps ++ closes f.name ∷ []) (behind_next f (g ∷ gs) ps (closes f.name) b refl) in
    one_more ps (closes f.name) r.more r.root r.document

pub fits_so_far : (ps : List Piece) → AreAllowed outside ps → Fits ps
fits_so_far ps a = fits (after outside ps).top (after outside ps).below ps (behind_start ps a)

-- how many elements are open behind the pieces
abbrev pub level : ℕ → List Piece → ℕ
level n [] = n
level n (opens name attrs at ∷ ps) = level (n + 1) ps
level n (hollow name attrs at ∷ ps) = level n ps
level n (closes name ∷ ps) = level (n - 1) ps
level n (run raw ∷ ps) = level n ps
level n (skip ∷ ps) = level n ps

level_closed : (f : Frame) (gs : List Frame) → length (close_top f gs).below ≡ length gs - 1
level_closed f [] = refl
level_closed f (g ∷ gs) = omega arith

pub level_is : (s : Stack) (ps : List Piece) (n : ℕ) → length s.below ≡ n → length (after s ps).below ≡ level n ps
level_is s [] n e = e
level_is s (opens name attrs at ∷ ps) n e = level_is (next s (opens name attrs at)) ps (n + 1) (omega (arith, e))
level_is s (hollow name attrs at ∷ ps) n e = level_is (next s (hollow name attrs at)) ps n e
level_is s (closes name ∷ ps) n e = level_is (next s (closes name)) ps (n - 1) (omega (arith, level_closed s.top s.below, e))
level_is s (run raw ∷ ps) n e = level_is (next s (run raw)) ps n e
level_is s (skip ∷ ps) n e = level_is s ps n e

pub shallow_push : (n : ℕ) (ps qs : List Piece) → AreShallow n ps → AreShallow (level n ps) qs → AreShallow n (ps ++ qs)
shallow_push n [] qs a b = b
shallow_push n (opens name attrs at ∷ ps) qs a b = (a.0, shallow_push (n + 1) ps qs a.1 b)
shallow_push n (hollow name attrs at ∷ ps) qs a b = (a.0, shallow_push n ps qs a.1 b)
shallow_push n (closes name ∷ ps) qs a b = shallow_push (n - 1) ps qs a b
shallow_push n (run raw ∷ ps) qs a b = shallow_push n ps qs a b
shallow_push n (skip ∷ ps) qs a b = shallow_push n ps qs a b

pub shallow_rest : (n : ℕ) (ps qs : List Piece) → AreShallow n (ps ++ qs) → AreShallow (level n ps) qs
shallow_rest n [] qs a = a
shallow_rest n (opens name attrs at ∷ ps) qs a = shallow_rest (n + 1) ps qs a.1
shallow_rest n (hollow name attrs at ∷ ps) qs a = shallow_rest n ps qs a.1
shallow_rest n (closes name ∷ ps) qs a = shallow_rest (n - 1) ps qs a
shallow_rest n (run raw ∷ ps) qs a = shallow_rest n ps qs a
shallow_rest n (skip ∷ ps) qs a = shallow_rest n ps qs a

pub shallow_front : (n : ℕ) (ps qs : List Piece) → AreShallow n (ps ++ qs) → AreShallow n ps
shallow_front n [] qs a = tt
shallow_front n (opens name attrs at ∷ ps) qs a = (a.0, shallow_front (n + 1) ps qs a.1)
shallow_front n (hollow name attrs at ∷ ps) qs a = (a.0, shallow_front n ps qs a.1)
shallow_front n (closes name ∷ ps) qs a = shallow_front (n - 1) ps qs a
shallow_front n (run raw ∷ ps) qs a = shallow_front n ps qs a
shallow_front n (skip ∷ ps) qs a = shallow_front n ps qs a

one_shallow : (s : Stack) (n : ℕ) (p : Piece) → length s.below ≡ n → IsShallowFor s p → AreShallow n (p ∷ [])
one_shallow s n (opens name attrs at) e h = (omega (arith, e, h), tt)
one_shallow s n (hollow name attrs at) e h = (omega (arith, e, h), tt)
one_shallow s n (closes name) e h = tt
one_shallow s n (run raw) e h = tt
one_shallow s n skip e h = tt

pub shallow_next : (ps : List Piece) (p : Piece) → AreShallow 0 ps → IsShallowFor (after outside ps) p → AreShallow 0 (ps ++ p ∷ [])
shallow_next ps p a h = shallow_push 0 ps (p ∷ []) a (one_shallow (after outside ps) (level 0 ps) p (level_is outside ps 0 refl) h)

pub too_deep : (ps : List Piece) (p : Piece) → IsTooDeepFor (after outside ps) p → AreShallow 0 (ps ++ p ∷ []) → ⊥
too_deep ps p h a = not_now p h (shallow_rest 0 ps (p ∷ []) a)
  where
    not_now : (p : Piece) → IsTooDeepFor (after outside ps) p → AreShallow (level 0 ps) (p ∷ []) → ⊥
    not_now (opens name attrs at) h a = omega (arith, level_is outside ps 0 refl, h.1, a.0)
    not_now (hollow name attrs at) h a = omega (arith, level_is outside ps 0 refl, h.1, a.0)
    not_now (closes name) h a = h
    not_now (run raw) h a = h
    not_now skip h a = h

pub allowed_deep : (s : Stack) (p : Piece) → IsTooDeepFor s p → IsAllowed s p
allowed_deep s (opens name attrs at) h = h.0
allowed_deep s (hollow name attrs at) h = h.0
allowed_deep s (closes name) h = absurd h
allowed_deep s (run raw) h = absurd h
allowed_deep s skip h = absurd h
