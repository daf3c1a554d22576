-- What was read can be written: its names are names, and it is not too deep.
use mathlib.Core.Former.{Count}
use Rattle.std.proofs.Common.{◌≡◌, ℕ, suc, ◌<◌, ◌≤◌, ◌+◌, ◌-◌, Bool, List, [], ◌∷◌, ◌++◌, refl, sym, ap, subst, ◌∙◌, arith, rules}
use Rattle.vtr_base.specs.declared.place.Place.{Place}
use Rattle.elem_text.specs.declared.elem.Attr.{Attr}
use Rattle.elem_text.specs.declared.elem.Elem.{Elem, Elem', Row_of-Elem, end_of-Elem, more_of-Elem, out-Elem, items-the_row-Elem}
use Rattle.elem_text.specs.declared.elem.Elem.TheViews.{the_lemmas}
use Rattle.elem_text.specs.Bytes.{IsNamed, IsName, place_after}
use Rattle.elem_text.specs.Tree.{Piece, opens, closes, hollow, run, skip, Content, nothing, words, passed, leaf, node, elem, joined, IsDocument}
use Rattle.elem_text.specs.Grammar.{IsLex, Reads, IsStartTag, Attributes}
use Rattle.elem_text.specs.Stack.{Stack, IsFinished}
use Rattle.elem_text.specs.Refusals.{AreShallow}
use Rattle.elem_text.specs.Written.{HaveOwnNames, HasNames, HaveNames, depth, depth_below, IsWritable}
use Rattle.elem_text.proofs.Along.{Along}
use Rattle.elem_text.proofs.Complete.{level, shallow_front, shallow_rest}
use Rattle.elem_text.proofs.Stacks.{finished}
use Rattle.elem_text.proofs.Written.{level_append}

-- the names in a tag are names, and those of its attributes differ
abbrev HasOwnNames : Piece → Type 0
HasOwnNames (opens n attrs at) = IsName n × HaveOwnNames [] attrs
HasOwnNames (hollow n attrs at) = IsName n × HaveOwnNames [] attrs
HasOwnNames (closes n) = Unit {0}
HasOwnNames (run raw) = Unit {0}
HasOwnNames skip = Unit {0}

abbrev AllOwnNames : List Piece → Type 0
AllOwnNames [] = Unit {0}
AllOwnNames (p ∷ ps) = HasOwnNames p × AllOwnNames ps

is_name : (b n rest : List ℕ) → IsNamed b n rest → IsName n
is_name b n rest k = record { letter = k.letter; bytes = k.span.all }

own_names : (before : List Attr) (b : List ℕ) (attrs : List Attr) (x : List ℕ) → Attributes before b attrs x → HaveOwnNames before attrs
own_names before b [] x r = tt
own_names before b (a ∷ attrs) x r = (is_name r.1 a.name r.6.at_left r.6.named, r.8, own_names (before ++ a ∷ []) r.3 attrs x r.9)

tag_names : (b n : List ℕ) (attrs : List Attr) (empty : Bool) (rest : List ℕ) → IsStartTag b n attrs empty rest → IsName n × HaveOwnNames [] attrs
tag_names b n attrs empty rest t = (is_name t.inside n t.behind t.named, own_names [] t.behind attrs _ t.attributes)

lex_names : (at : Place) (b : List ℕ) (p : Piece) (rest : List ℕ) → IsLex at b p rest → HasOwnNames p
lex_names at b (opens n attrs place) rest l = tag_names b n attrs _ rest l.1
lex_names at b (hollow n attrs place) rest l = tag_names b n attrs _ rest l.1
lex_names at b (closes n) rest l = tt
lex_names at b (run raw) rest l = tt
lex_names at b skip rest l = tt

all_names : (at : Place) (b : List ℕ) (ps : List Piece) (end : Place) (rest : List ℕ) → Reads at b ps end rest → AllOwnNames ps
all_names at b [] end rest r = tt
all_names at b (p ∷ ps) end rest r = (lex_names at b p r.1 r.3, all_names (place_after at r.0) r.1 ps end rest r.4)

names_front : (ps qs : List Piece) → AllOwnNames (ps ++ qs) → AllOwnNames ps
names_front [] qs h = tt
names_front (p ∷ ps) qs h = (h.0, names_front ps qs h.1)

names_behind : (ps qs : List Piece) → AllOwnNames (ps ++ qs) → AllOwnNames qs
names_behind [] qs h = h
names_behind (p ∷ ps) qs h = names_behind ps qs h.1

-- each element has names, and is at most so deep
abbrev AreWritable : ℕ → List Elem → Type 0
AreWritable n [] = Unit {0}
AreWritable n (e ∷ es) = HasNames e × (depth e ≤ n) × AreWritable n es

row_names : (m : Count) (row : Row_of-Elem m) (n : ℕ) → AreWritable n (items-the_row-Elem m row) → HaveNames row
row_names m (more_of-Elem e rest) n h = (h.0, row_names _ rest n h.2)
row_names m end_of-Elem n h = tt

row_depth : (m : Count) (row : Row_of-Elem m) (n : ℕ) → AreWritable n (items-the_row-Elem m row) → depth_below row ≤ n
row_depth m (more_of-Elem e rest) n h = omega (arith, h.1, row_depth _ rest n h.2)
row_depth m end_of-Elem n h = omega arith

one_writable : (e : Elem) (n : ℕ) → IsName (out-Elem e).name → HaveOwnNames [] (out-Elem e).attrs → AreWritable n (out-Elem e).kids → HasNames e × (depth e ≤ suc n)
unfolding out-Elem denote.Hole.Carrier.out
one_writable (Elem' name attrs text m kids place) n k a h =
    let same : (out-Elem (Elem' name attrs text m kids place)).kids ≡ items-the_row-Elem _ kids = search (rules, the_lemmas) in
    let P : List Elem → Type 0 = λ l. AreWritable n l in
    let all : AreWritable n (items-the_row-Elem _ kids) = subst P same h in
    let below : depth_below kids ≤ n = row_depth _ kids n all in
    ((k, a, row_names _ kids n all), omega (arith, below))

elem_writable : (name : List ℕ) (attrs : List Attr) (text : List ℕ) (kids : List Elem) (at : Place) (n : ℕ) → IsName name → HaveOwnNames [] attrs → AreWritable n kids →
    HasNames (elem name attrs text kids at) × (depth (elem name attrs text kids at) ≤ suc n)
elem_writable name attrs text kids at n k a h =
    let e = elem name attrs text kids at in
    let name_is : (out-Elem (elem name attrs text kids at)).name ≡ name = search (rules, the_lemmas) in
    let attrs_are : (out-Elem (elem name attrs text kids at)).attrs ≡ attrs = search (rules, the_lemmas) in
    let kids_are : (out-Elem (elem name attrs text kids at)).kids ≡ kids = search (rules, the_lemmas) in
    let P : List Attr → Type 0 = λ l. HaveOwnNames [] l in
    let Q : List Elem → Type 0 = λ l. AreWritable n l in
    let R : List ℕ → Type 0 = λ l. IsName l in
    one_writable e n (subst R (sym name_is) k) (subst P (sym attrs_are) a) (subst Q (sym kids_are) h)

-- behind the content of an element as many are open as before
level_content : (ps : List Piece) (rs : List (List ℕ)) (ks : List Elem) → Content ps rs ks → (n : ℕ) → level n ps ≡ n
level_content _ _ _ nothing n = refl
level_content _ _ _ (words raw ps rs ks c) n = level_content ps rs ks c n
level_content _ _ _ (passed ps rs ks c) n = level_content ps rs ks c n
level_content _ _ _ (leaf name a at ps rs ks c) n = level_content ps rs ks c n
level_content _ _ _ (node name a at inner own below ps rs ks ci c) n =
    let inside : level (n + 1) inner ≡ n + 1 = level_content inner own below ci (n + 1) in
    let back : (n + 1) - 1 ≡ n = omega arith in
    level_append (n + 1) inner (closes name ∷ ps) ∙ (ap (λ x. level (x - 1) ps) inside ∙ (ap (λ x. level x ps) back ∙ level_content ps rs ks c n))

deeper : (e : Elem) (es : List Elem) (n m : ℕ) → n ≤ m → HasNames e × (depth e ≤ n) → AreWritable m es → AreWritable m (e ∷ es)
deeper e es n m h w rest = (w.0, omega (arith, w.1), rest)

-- what stands between tags can be written, so far as no element of it is too deep
content_writable : (ps : List Piece) (rs : List (List ℕ)) (ks : List Elem) → Content ps rs ks → (n : ℕ) → AllOwnNames ps → AreShallow n ps → AreWritable (64 - n) ks
content_writable _ _ _ nothing n h s = tt
content_writable _ _ _ (words raw ps rs ks c) n h s = content_writable ps rs ks c n h.1 s
content_writable _ _ _ (passed ps rs ks c) n h s = content_writable ps rs ks c n h.1 s
content_writable _ _ _ (leaf name a at ps rs ks c) n h s =
    let room : n < 64 = s.0 in
    deeper (elem name a [] [] at) ks 1 (64 - n) (omega (arith, room)) (elem_writable name a [] [] at 0 h.0.0 h.0.1 tt) (content_writable ps rs ks c n h.1 s.1)
content_writable _ _ _ (node name a at inner own below ps rs ks ci c) n h s =
    let room : n < 64 = s.0 in
    let behind : AllOwnNames (closes name ∷ ps) = names_behind inner (closes name ∷ ps) h.1 in
    let inside : AreWritable (64 - (n + 1)) below = content_writable inner own below ci (n + 1) (names_front inner (closes name ∷ ps) h.1) (shallow_front (n + 1) inner (closes name ∷ ps) s.1) in
    let P : ℕ → Type 0 = λ x. AreShallow (x - 1) ps in
    let Q : ℕ → Type 0 = λ x. AreShallow x ps in
    let out : AreShallow ((n + 1) - 1) ps = subst P (level_content inner own below ci (n + 1)) (shallow_rest (n + 1) inner (closes name ∷ ps) s.1) in
    let back : (n + 1) - 1 ≡ n = omega arith in
    deeper (elem name a (joined own) below at) ks (suc (64 - (n + 1))) (64 - n) (omega (arith, room)) (elem_writable name a (joined own) below at (64 - (n + 1)) h.0.0 h.0.1 inside)
    (content_writable ps rs ks c n behind.1 (subst Q back out))

document_writable : (ps : List Piece) (e : Elem) → IsDocument ps e → AllOwnNames ps → AreShallow 0 ps → IsWritable e
document_writable ps e d h s = let w = content_writable ps d.around (e ∷ []) d.content 0 h s in record { names = w.0; depth = w.1 }

pub along_writable : (start : Place) (bytes : List ℕ) (place : Place) (rest : List ℕ) (s : Stack) (e : Elem) → Along start bytes place rest s → IsFinished s e → IsWritable e
along_writable start bytes place rest s e a f =
    let P : Stack → Type 0 = λ x. IsFinished x e in
    document_writable a.ps e (finished a.ps e a.allowed (subst P (sym a.to) f)) (all_names start bytes a.ps place rest a.reads) a.shallow
