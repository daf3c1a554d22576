-- Children of other names, where those of one name are let go.
use Rattle.std.proofs.Common.{◌≡◌, ℕ, zero, suc, Bool, true, false, cond, List, [], ◌∷◌, Some, length, filter, flat_map, get_or, slice_get, slice_set, codes, refl, sym, ap, ◌∙◌, arith, rules}
use Rattle.std.proofs.lemmas.Bool.{false≢true}
use Rattle.std.specs.Str.{bytes_eq}
use Rattle.std.proofs.lemmas.Slice.Eq.{bytes_eq-Decides}
use Rattle.vtr_base.specs.declared.place.Place.{Place}
use Rattle.elem_text.specs.declared.elem.Attr.{Attr}
use Rattle.elem_text.specs.declared.elem.Elem.{Elem, out-Elem}
use Rattle.elem_text.specs.declared.elem.Elem.TheViews.{the_lemmas}
use Rattle.elem_text.specs.Tree.{elem}
use Rattle.elem_attrs.specs.Attributes.{has_tag}
use Rattle.elem_reading.specs.Kids.{kids_named}
use Rattle.rr_edges.specs.FileEdges.{edges_of}
use Rattle.rr_files.specs.Saying.{IsGraphRoot}

-- an element that a filter drops, over one that it drops
pub dropped : {X : Type 0} (p : X → Bool) (xs : List X) (k : ℕ) (old new : X) → slice_get xs k ≡ Some old → p old ≡ false → p new ≡ false →
    filter p (slice_set xs k new) ≡ filter p xs
dropped p [] k old new at was is = refl
dropped p (x ∷ xs) zero old new at was is =
    let same : x ≡ old = cc in
    ap (λ b. cond b (new ∷ filter p xs) (filter p xs)) is ∙ sym (ap (λ b. cond b (x ∷ filter p xs) (filter p xs)) (ap p same ∙ was))
dropped p (x ∷ xs) (suc k) old new at was is = ap (λ l. cond (p x) (x ∷ l) l) (dropped p xs k old new at was is)

pub same_length : {X : Type 0} (xs : List X) (k : ℕ) (new : X) → length (slice_set xs k new) ≡ length xs
same_length [] k new = refl
same_length (x ∷ xs) zero new = refl
same_length (x ∷ xs) (suc k) new = ap suc (same_length xs k new)

-- the children of an element that was made of its parts
pub kids_are : (name : List ℕ) (attrs : List Attr) (text : List ℕ) (kids : List Elem) (at : Place) → (out-Elem (elem name attrs text kids at)).kids ≡ kids
kids_are name attrs text kids at = search (rules, the_lemmas)

-- another name
pub other_tag : (e : Elem) (name other : List ℕ) → (out-Elem e).name ≡ name → (other ≡ name → ⊥) → has_tag e other ≡ false
other_tag e name other named differ = by (bytes_eq (out-Elem e).name other) refl
  where
    by : (b : Bool) → bytes_eq (out-Elem e).name other ≡ b → b ≡ false
    by false t = refl
    by true t = absurd (differ (sym ((bytes_eq-Decides (out-Elem e).name other).0 t) ∙ named))

pub tag_is : (e : Elem) (name : List ℕ) → has_tag e name ≡ true → (out-Elem e).name ≡ name
tag_is e name tagged = (bytes_eq-Decides (out-Elem e).name name).0 tagged

-- the children of other names than these two are the same
pub record IsThinned (name : List ℕ) (old new : Elem) (count : ℕ) : Type 0 where
  pub long : length (out-Elem new).kids ≡ count
  pub same : (other : List ℕ) → (other ≡ name → ⊥) → (other ≡ [] → ⊥) → kids_named new other ≡ kids_named old other

pub thinner : (name : List ℕ) (old now next nothing kid : Elem) (k count : ℕ) → IsThinned name old now count → (out-Elem next).kids ≡ slice_set (out-Elem now).kids k nothing →
    slice_get (out-Elem now).kids k ≡ Some kid → has_tag kid name ≡ true → (out-Elem nothing).name ≡ [] → IsThinned name old next count
thinner name old now next nothing kid k count thin is at tagged bare = record {
  long = ap length is ∙ same_length (out-Elem now).kids k nothing ∙ thin.long;
  same = λ other differs some.
      ap (filter (λ (e : Elem). has_tag e other)) is ∙
      dropped (λ (e : Elem). has_tag e other) (out-Elem now).kids k kid nothing at (other_tag kid name other (tag_is kid name tagged) differs) (other_tag nothing [] other bare some) ∙
      thin.same other differs some;
}

-- edges stay where nodes are let go

edges_not_nodes : codes "rr_edges" ≡ codes "rr_nodes" → ⊥
edges_not_nodes e = (let n : 101 ≡ 110 = ap (λ l. get_or l 3 0) e in omega (arith, n))

some_edges : codes "rr_edges" ≡ [] → ⊥
some_edges e = (let n : 101 ≡ 0 = ap (λ l. get_or l 3 0) e in omega (arith, n))

pub edges_stay : (old new : Elem) → ((other : List ℕ) → (other ≡ codes "rr_nodes" → ⊥) → (other ≡ [] → ⊥) → kids_named new other ≡ kids_named old other) → edges_of new ≡ edges_of old
edges_stay old new same = ap (flat_map (λ parent. kids_named parent (codes "edge"))) (same (codes "rr_edges") edges_not_nodes some_edges)

pub other_root : (e : Elem) → has_tag e (codes "rr_graph") ≡ false → IsGraphRoot e → ⊥
other_root e tagged named = false≢true (sym tagged ∙ (bytes_eq-Decides (out-Elem e).name (codes "rr_graph")).1 named)
