-- Pins and pairs as keys: `==` is equality, and a pair is a key where its pins are joined.
use Rattle.std.proofs.Common.{◌≡◌, ◌∷◌, [], ◌++◌, List, ℕ, Bool, true, false, cond, ◌&&◌, ◌||◌, inl, inr, nat_eq, Option, Some, None, is_some, map, refl, sym, ◌∙◌, ap, arith}
use Rattle.std.specs.Option.{option_eq}
use Rattle.std.specs.List.{list_any}
use Rattle.std.specs.Map.{lookup}
use Rattle.std.proofs.lemmas.Bool.Decides.{nat_tests}
use Rattle.std.proofs.lemmas.Bool.{and_parts, and_from, or_cases, cond-true, cond-false}
use Rattle.std.proofs.lemmas.List.{map-append}
use Rattle.indexmap.specs.IndexMap.{IndexMap, get, insert_entry}
use Rattle.indexmap.proofs.CallerLemmas.{insert_entry-new}
use Rattle.vtr_base.specs.Lists.{Has}
use Rattle.mode_edges.specs.declared.pin.ChildAt.{ChildAt}
use Rattle.mode_edges.specs.declared.pin.LocalPin.{LocalPin}
use Rattle.mode_edges.specs.declared.pin.LocalEdge.{LocalEdge}
use Rattle.mode_edges.specs.declared.pin.Pair.{Pair}
use Rattle.mode_edges.specs.Pairs.{same_child, same_pin, edge_of, edges_in, joined, with_edge}

abbrev pub same_pair : Pair → Pair → Bool
same_pair x y = same_pin x.src y.src && same_pin x.dst y.dst

nat_same : (m n : ℕ) → nat_eq m n ≡ true → m ≡ n
nat_same m n e = grind (arith, nat_tests)

nat_itself : (m : ℕ) → nat_eq m m ≡ true
nat_itself m = grind (arith, nat_tests)

abbrev child : ℕ → ℕ → ChildAt
child c i = record { child = c; instance = i }

abbrev pin : Option ChildAt → ℕ → ℕ → LocalPin
pin owner port bit = record { owner = owner; port = port; bit = bit }

child_same : (x y : ChildAt) → same_child x y ≡ true → x ≡ y
child_same x y e =
    let k = and_parts (nat_eq x.child y.child) (nat_eq x.instance y.instance) e in
    ap (λ (c : ℕ). child c x.instance) (nat_same x.child y.child k.0) ∙ ap (λ (i : ℕ). child y.child i) (nat_same x.instance y.instance k.1)

owner_same : (x y : Option ChildAt) → option_eq same_child x y ≡ true → x ≡ y
owner_same None None e = refl
owner_same None (Some y) e = cc
owner_same (Some x) None e = cc
owner_same (Some x) (Some y) e = ap Some (child_same x y e)

pub pin_same : (x y : LocalPin) → same_pin x y ≡ true → x ≡ y
pin_same x y e =
    let k = and_parts (option_eq same_child x.owner y.owner) (nat_eq x.port y.port && nat_eq x.bit y.bit) e in
    let n = and_parts (nat_eq x.port y.port) (nat_eq x.bit y.bit) k.1 in
    ap (λ (o : Option ChildAt). pin o x.port x.bit) (owner_same x.owner y.owner k.0)
    ∙ (ap (λ (p : ℕ). pin y.owner p x.bit) (nat_same x.port y.port n.0) ∙ ap (λ (b : ℕ). pin y.owner y.port b) (nat_same x.bit y.bit n.1))

child_itself : (x : ChildAt) → same_child x x ≡ true
child_itself x = and_from (nat_eq x.child x.child) (nat_eq x.instance x.instance) (nat_itself x.child) (nat_itself x.instance)

owner_itself : (x : Option ChildAt) → option_eq same_child x x ≡ true
owner_itself None = refl
owner_itself (Some x) = child_itself x

pub pin_itself : (x : LocalPin) → same_pin x x ≡ true
pin_itself x =
    and_from (option_eq same_child x.owner x.owner) (nat_eq x.port x.port && nat_eq x.bit x.bit) (owner_itself x.owner)
    (and_from (nat_eq x.port x.port) (nat_eq x.bit x.bit) (nat_itself x.port) (nat_itself x.bit))

-- a pin that a test finds in a list stands there
pub pin_found : (xs : List LocalPin) (x : LocalPin) → list_any (same_pin x) xs ≡ true → Has xs x
pin_found [] x e = cc
pin_found (y ∷ ys) x e =
    elim (or_cases (same_pin x y) (list_any (same_pin x) ys) e) [ inl same ↦ inl (pin_same x y same) | inr more ↦ inr (pin_found ys x more) ]

abbrev edges : List (Pair × ℕ) → List LocalEdge
edges es = map (λ entry. edge_of entry.0 entry.1) es

key_joined : (es : List (Pair × ℕ)) (p : Pair) (inter : ℕ) → is_some (lookup (same_pair p) es) ≡ joined (edges es) (edge_of p inter)
key_joined [] p inter = refl
key_joined (x ∷ xs) p inter = by (same_pair p x.0) (key_joined xs p inter)
  where
    by : (b : Bool) → is_some (lookup (same_pair p) xs) ≡ joined (edges xs) (edge_of p inter) →
        is_some (cond b (Some x.1) (lookup (same_pair p) xs)) ≡ (b || joined (edges xs) (edge_of p inter))
    by true more = refl
    by false more = more

-- a pair that is a key changes nothing
pub keeps_pair : {S : Type 0} (m : IndexMap Pair ℕ S) (p : Pair) (inter : ℕ) (test : Bool) → test ≡ is_some (get same_pair m p) → test ≡ true →
    edges_in m ≡ with_edge (edges_in m) (edge_of p inter)
keeps_pair m p inter test is t =
    sym (cond-true (joined (edges_in m) (edge_of p inter)) (edges_in m) (edges_in m ++ edge_of p inter ∷ [])
    (sym (key_joined m.entries p inter) ∙ (sym is ∙ t)))

none_is : {X : Type 0} (o : Option X) → is_some o ≡ false → o ≡ None
none_is None e = refl
none_is (Some x) e = cc

-- a pair that isn't goes last
pub takes_pair : {S : Type 0} (m n : IndexMap Pair ℕ S) (p : Pair) (inter : ℕ) (test : Bool) → test ≡ is_some (get same_pair m p) → test ≡ false →
    n.entries ≡ insert_entry same_pair m.entries p inter → edges_in n ≡ with_edge (edges_in m) (edge_of p inter)
takes_pair m n p inter test is f grown =
    let none = none_is (get same_pair m p) (sym is ∙ f) in
    let last = grown ∙ insert_entry-new same_pair m p inter none in
    ap edges last ∙ (map-append (λ entry. edge_of entry.0 entry.1) m.entries ((p, inter) ∷ [])
    ∙ sym (cond-false (joined (edges_in m) (edge_of p inter)) (edges_in m) (edges_in m ++ edge_of p inter ∷ [])
    (sym (key_joined m.entries p inter) ∙ (sym is ∙ f))))
