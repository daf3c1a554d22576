-- A file has no more elements than bytes: each element has a tag of its own, and a tag has a byte.
use mathlib.Core.Former.{Count}
use Rattle.std.proofs.Common.{◌≡◌, ℕ, suc, ◌≤◌, ◌+◌, List, [], ◌∷◌, length, refl, ap, ◌∙◌, arith, rules, length-append}
use Rattle.vtr_base.specs.declared.place.Place.{Place}
use Rattle.elem_text.specs.declared.elem.Attr.{Attr}
use Rattle.elem_text.specs.declared.elem.Elem.{Elem, Elem', Row_of-Elem, end_of-Elem, more_of-Elem, out-Elem, items-the_row-Elem}
use Rattle.elem_text.specs.declared.elem.Elem.TheViews.{the_lemmas}
use Rattle.elem_text.specs.Bytes.{place_after}
use Rattle.elem_text.specs.Tree.{Piece, closes, Content, nothing, words, passed, leaf, node, elem, joined, IsDocument}
use Rattle.elem_text.specs.Grammar.{Reads, IsFile}
use Rattle.elem_text.specs.Held.{elements, elements_below}
use Rattle.elem_text.proofs.Along.{lex_front}

-- how many elements these are, with those below them
abbrev total : List Elem → ℕ
total [] = 0
total (e ∷ es) = elements e + total es

row_total : (m : Count) (row : Row_of-Elem m) → elements_below row ≡ total (items-the_row-Elem m row)
row_total m (more_of-Elem e rest) = ap (λ n. elements e + n) (row_total _ rest)
row_total m end_of-Elem = refl

one_total : (e : Elem) → elements e ≡ suc (total (out-Elem e).kids)
unfolding out-Elem denote.Hole.Carrier.out
one_total (Elem' name attrs text n kids place) = search (rules, the_lemmas, row_total)

elem_total : (name : List ℕ) (attrs : List Attr) (text : List ℕ) (kids : List Elem) (at : Place) → elements (elem name attrs text kids at) ≡ suc (total kids)
elem_total name attrs text kids at =
    let kids_are : (out-Elem (elem name attrs text kids at)).kids ≡ kids = search (rules, the_lemmas) in
    one_total (elem name attrs text kids at) ∙ ap (λ l. suc (total l)) kids_are

-- between tags there is a piece for each element
content_few : (ps : List Piece) (rs : List (List ℕ)) (ks : List Elem) → Content ps rs ks → total ks ≤ length ps
content_few _ _ _ nothing = omega arith
content_few _ _ _ (words raw ps rs ks c) = omega (arith, content_few ps rs ks c)
content_few _ _ _ (passed ps rs ks c) = omega (arith, content_few ps rs ks c)
content_few _ _ _ (leaf n a at ps rs ks c) = omega (arith, content_few ps rs ks c, elem_total n a [] [] at)
content_few _ _ _ (node n a at inner own below ps rs ks ci c) =
    omega (arith, content_few inner own below ci, content_few ps rs ks c, elem_total n a (joined own) below at, length-append inner (closes n ∷ ps))

document_few : (ps : List Piece) (e : Elem) → IsDocument ps e → elements e ≤ length ps
document_few ps e d = omega (arith, content_few ps d.around (e ∷ []) d.content)

-- a piece has a byte
reads_few : (at : Place) (b : List ℕ) (ps : List Piece) (end : Place) (rest : List ℕ) → Reads at b ps end rest → length ps ≤ length b
reads_few at b [] end rest r = omega arith
reads_few at b (p ∷ ps) end rest r =
    let f = lex_front at b p r.1 r.3 in
    omega (arith, f.some, ap length f.spelled, length-append f.front r.1, reads_few (place_after at r.0) r.1 ps end rest r.4)

pub file_few : (at : Place) (b : List ℕ) (e : Elem) → IsFile at b e → elements e ≤ length b
file_few at b e f = omega (arith, document_few f.ps e f.document, reads_few at b f.ps f.end [] f.reads)
