-- The texts of what was read are UTF-8, since the file is.
use mathlib.Core.Former.{Count}
use Rattle.std.proofs.Common.{◌≡◌, ℕ, Bool, List, [], ◌∷◌, ◌++◌, refl, sym, subst, arith, rules, IsUtf8, ⊎_elim}
use Rattle.std.specs.List.{All}
use Rattle.std.proofs.lemmas.List.Elements.{All-nil, All-cons}
use Rattle.std.proofs.lemmas.Str.{IsUtf8-append, IsUtf8-nil}
use Rattle.vtr_base.specs.declared.place.Place.{Place}
use Rattle.elem_text.specs.declared.elem.Attr.{Attr}
use Rattle.elem_text.specs.declared.elem.Elem.{Elem, Elem', Row_of-Elem, end_of-Elem, more_of-Elem, out-Elem, items-the_row-Elem}
use Rattle.elem_text.specs.declared.elem.Elem.TheViews.{the_lemmas}
use Rattle.elem_text.specs.Bytes.{place_after}
use Rattle.elem_text.specs.References.{decoded}
use Rattle.elem_text.specs.Tree.{Piece, opens, closes, hollow, run, skip, Content, nothing, words, passed, leaf, node, elem, joined}
use Rattle.elem_text.specs.Grammar.{IsLex, Reads, IsFile, IsStartTag, IsEndTag, IsComment, IsInstruction, Attributes, tail_of}
use Rattle.elem_text.specs.Held.{IsUtf8Attr, IsUtf8Elem, AreUtf8Elems}
use Rattle.elem_text.proofs.DecodedUtf8.{decoded_utf8}
use Rattle.elem_text.proofs.Utf8.{utf8_behind, utf8_behind_first, until_utf8, named_utf8, white_utf8, attr_utf8, tail_utf8, end_utf8, comment_utf8, instruction_utf8}

-- the texts of a piece are UTF-8
abbrev IsUtf8Piece : Piece → Type 0
IsUtf8Piece (opens n attrs at) = IsUtf8 n × All IsUtf8Attr attrs
IsUtf8Piece (hollow n attrs at) = IsUtf8 n × All IsUtf8Attr attrs
IsUtf8Piece (closes n) = Unit {0}
IsUtf8Piece (run raw) = IsUtf8 (decoded raw)
IsUtf8Piece skip = Unit {0}

abbrev AreUtf8Pieces : List Piece → Type 0
AreUtf8Pieces [] = Unit {0}
AreUtf8Pieces (p ∷ ps) = IsUtf8Piece p × AreUtf8Pieces ps

attributes_utf8 : (before : List Attr) (b : List ℕ) (attrs : List Attr) (x : List ℕ) → Attributes before b attrs x → IsUtf8 b → All IsUtf8Attr attrs × IsUtf8 x
attributes_utf8 before b [] x r u = (All-nil IsUtf8Attr, white_utf8 b r.0 x r.1 u)
attributes_utf8 before b (a ∷ attrs) x r u =
    let here = attr_utf8 r.1 a.name r.2 r.3 r.6 (white_utf8 b r.0 r.1 r.4 u) in
    let later = attributes_utf8 (before ++ a ∷ []) r.3 attrs x r.9 here.2 in
    let P : List ℕ → Type 0 = λ l. IsUtf8 l in
    (All-cons IsUtf8Attr a attrs (record { name = here.0; value = subst P (sym r.7) (decoded_utf8 r.2 here.1) }) later.0, later.1)

start_utf8 : (b n : List ℕ) (attrs : List Attr) (empty : Bool) (rest : List ℕ) → IsStartTag b n attrs empty rest → IsUtf8 b → (IsUtf8 n × All IsUtf8Attr attrs) × IsUtf8 rest
start_utf8 b n attrs empty rest t u =
    let P : List ℕ → Type 0 = λ l. IsUtf8 l in
    let name = named_utf8 t.inside n t.behind t.named (utf8_behind_first 60 t.inside (omega arith) (subst P t.angle u)) in
    let later = attributes_utf8 [] t.behind attrs (tail_of empty rest) t.attributes name.1 in
    ((name.0, later.0), tail_utf8 empty (tail_of empty rest) rest refl later.1)

closed_utf8 : (b n rest : List ℕ) → IsEndTag b n rest → IsUtf8 b → IsUtf8 rest
closed_utf8 b n rest t u =
    let P : List ℕ → Type 0 = λ l. IsUtf8 l in
    let Q : List ℕ → Type 0 = λ l. IsEndTag l n rest in
    end_utf8 t.inside n rest (subst Q t.angle t) (utf8_behind (60 ∷ []) t.inside 47 (omega arith) (subst P t.angle u))

passed_utf8 : (b rest : List ℕ) → IsComment b rest → IsUtf8 b → IsUtf8 rest
passed_utf8 b rest t u =
    let P : List ℕ → Type 0 = λ l. IsUtf8 l in
    let Q : List ℕ → Type 0 = λ l. IsComment l rest in
    comment_utf8 (45 ∷ 45 ∷ t.inside) rest (subst Q t.mark t) (utf8_behind (60 ∷ []) (45 ∷ 45 ∷ t.inside) 33 (omega arith) (subst P t.mark u))

told_utf8 : (b rest : List ℕ) → IsInstruction b rest → IsUtf8 b → IsUtf8 rest
told_utf8 b rest t u =
    let P : List ℕ → Type 0 = λ l. IsUtf8 l in
    let Q : List ℕ → Type 0 = λ l. IsInstruction l rest in
    instruction_utf8 t.inside rest (subst Q t.mark t) (utf8_behind (60 ∷ []) t.inside 63 (omega arith) (subst P t.mark u))

lex_utf8 : (at : Place) (b : List ℕ) (p : Piece) (rest : List ℕ) → IsLex at b p rest → IsUtf8 b → IsUtf8Piece p × IsUtf8 rest
lex_utf8 at b (opens n attrs place) rest l u = start_utf8 b n attrs _ rest l.1 u
lex_utf8 at b (hollow n attrs place) rest l u = start_utf8 b n attrs _ rest l.1 u
lex_utf8 at b (closes n) rest l u = (tt, closed_utf8 b n rest l u)
lex_utf8 at b (run raw) rest l u = let p = until_utf8 60 b raw rest (omega arith) l.span u in (decoded_utf8 raw p.0, p.1)
lex_utf8 at b skip rest l u = (tt, ⊎_elim (λ c. passed_utf8 b rest c u) (λ i. told_utf8 b rest i u) l)

reads_utf8 : (at : Place) (b : List ℕ) (ps : List Piece) (end : Place) (rest : List ℕ) → Reads at b ps end rest → IsUtf8 b → AreUtf8Pieces ps
reads_utf8 at b [] end rest r u = tt
reads_utf8 at b (p ∷ ps) end rest r u = let l = lex_utf8 at b p r.1 r.3 u in (l.0, reads_utf8 (place_after at r.0) r.1 ps end rest r.4 l.1)

utf8_parts : (ps qs : List Piece) → AreUtf8Pieces (ps ++ qs) → AreUtf8Pieces ps × AreUtf8Pieces qs
utf8_parts [] qs h = (tt, h)
utf8_parts (p ∷ ps) qs h = let l = utf8_parts ps qs h.1 in ((h.0, l.0), l.1)

abbrev AreUtf8 : List Elem → Type 0
AreUtf8 [] = Unit {0}
AreUtf8 (e ∷ es) = IsUtf8Elem e × AreUtf8 es

row_utf8 : (m : Count) (row : Row_of-Elem m) → AreUtf8 (items-the_row-Elem m row) → AreUtf8Elems row
row_utf8 m (more_of-Elem e rest) h = (h.0, row_utf8 _ rest h.1)
row_utf8 m end_of-Elem h = tt

one_utf8 : (e : Elem) → IsUtf8 (out-Elem e).name → All IsUtf8Attr (out-Elem e).attrs → IsUtf8 (out-Elem e).text → AreUtf8 (out-Elem e).kids → IsUtf8Elem e
unfolding out-Elem denote.Hole.Carrier.out
one_utf8 (Elem' name attrs text m kids place) n a t k =
    let same : (out-Elem (Elem' name attrs text m kids place)).kids ≡ items-the_row-Elem _ kids = search (rules, the_lemmas) in
    let P : List Elem → Type 0 = λ l. AreUtf8 l in
    (n, a, t, row_utf8 _ kids (subst P same k))

elem_utf8 : (name : List ℕ) (attrs : List Attr) (text : List ℕ) (kids : List Elem) (at : Place) → IsUtf8 name × All IsUtf8Attr attrs → IsUtf8 text → AreUtf8 kids → IsUtf8Elem (elem name attrs text kids at)
elem_utf8 name attrs text kids at h t k =
    let e = elem name attrs text kids at in
    let name_is : (out-Elem (elem name attrs text kids at)).name ≡ name = search (rules, the_lemmas) in
    let attrs_are : (out-Elem (elem name attrs text kids at)).attrs ≡ attrs = search (rules, the_lemmas) in
    let text_is : (out-Elem (elem name attrs text kids at)).text ≡ text = search (rules, the_lemmas) in
    let kids_are : (out-Elem (elem name attrs text kids at)).kids ≡ kids = search (rules, the_lemmas) in
    let P : List ℕ → Type 0 = λ l. IsUtf8 l in
    let Q : List Attr → Type 0 = λ l. All IsUtf8Attr l in
    let R : List Elem → Type 0 = λ l. AreUtf8 l in
    one_utf8 e (subst P (sym name_is) h.0) (subst Q (sym attrs_are) h.1) (subst P (sym text_is) t) (subst R (sym kids_are) k)

-- the text and the elements between tags are UTF-8
content_utf8 : (ps : List Piece) (rs : List (List ℕ)) (ks : List Elem) → Content ps rs ks → AreUtf8Pieces ps → IsUtf8 (joined rs) × AreUtf8 ks
content_utf8 _ _ _ nothing h = (IsUtf8-nil, tt)
content_utf8 _ _ _ (words raw ps rs ks c) h = let l = content_utf8 ps rs ks c h.1 in (IsUtf8-append (decoded raw) (joined rs) h.0 l.0, l.1)
content_utf8 _ _ _ (passed ps rs ks c) h = content_utf8 ps rs ks c h.1
content_utf8 _ _ _ (leaf n a at ps rs ks c) h = let l = content_utf8 ps rs ks c h.1 in (l.0, (elem_utf8 n a [] [] at h.0 IsUtf8-nil tt, l.1))
content_utf8 _ _ _ (node n a at inner own below ps rs ks ci c) h =
    let parts = utf8_parts inner (closes n ∷ ps) h.1 in
    let inside = content_utf8 inner own below ci parts.0 in
    let l = content_utf8 ps rs ks c parts.1.1 in
    (l.0, (elem_utf8 n a (joined own) below at h.0 inside.0 inside.1, l.1))

pub file_utf8 : (at : Place) (b : List ℕ) (e : Elem) → IsUtf8 b → IsFile at b e → IsUtf8Elem e
file_utf8 at b e u f = (content_utf8 f.ps f.document.around (e ∷ []) f.document.content (reads_utf8 at b f.ps f.end [] f.reads u)).1.0
