-- The locations of roots, root by root.
use Rattle.std.proofs.Common.{◌≡◌, ◌<◌, ◌≤◌, ◌+◌, ◌-◌, ◌++◌, ℕ, zero, suc, List, [], ◌∷◌, map, length, refl, sym, ap, ◌∙◌, subst, inl, inr, append_assoc, arith}
use Rattle.std.specs.List.{flat_map, sum_by}
use Rattle.std.proofs.lemmas.List.{length-map}
use Rattle.std.proofs.lemmas.List.Concat.{length-flat_map}
use Rattle.vtr_base.specs.Lists.{Has, up_from}
use Rattle.list_laws.specs.Orders.{Once}
use Rattle.list_laws.proofs.Members.{from_map, has_map, from_flat, has_flat, up_has, has_up}
use Rattle.list_laws.proofs.Onces.{once_map, once_flat, once_up}
use Rattle.rr_locs.specs.declared.roots.TileRoot.{TileRoot}
use Rattle.rr_locs.specs.declared.roots.LocAt.{LocAt}
use Rattle.rr_locs.specs.Listing.{loc_of, locs_of}
use Rattle.rr_locs.specs.Places.{place_of, AreApart, IsLoc}

once_of_map : {A B : Type 0} (f : A → B) (xs : List A) → Once (map f xs) → Once xs
once_of_map f [] once = tt
once_of_map f (x ∷ xs) once = (λ has. once.0 (has_map f xs x has), once_of_map f xs once.1)

one_of_map : {A B : Type 0} (f : A → B) (xs : List A) → Once (map f xs) → (a b : A) → Has xs a → Has xs b → f a ≡ f b → a ≡ b
one_of_map f [] once a b has_a has_b same = absurd has_a
one_of_map f (x ∷ xs) once a b (inl is_a) (inl is_b) same = is_a ∙ sym is_b
one_of_map f (x ∷ xs) once a b (inl is_a) (inr has_b) same =
    absurd (once.0 (subst (Has (map f xs)) (sym same ∙ ap f is_a) (has_map f xs b has_b)))
one_of_map f (x ∷ xs) once a b (inr has_a) (inl is_b) same =
    absurd (once.0 (subst (Has (map f xs)) (same ∙ ap f is_b) (has_map f xs a has_a)))
one_of_map f (x ∷ xs) once a b (inr has_a) (inr has_b) same = one_of_map f xs once.1 a b has_a has_b same

pub listed_is_loc : (roots : List TileRoot) (loc : LocAt) → Has (flat_map locs_of roots) loc → IsLoc roots loc
listed_is_loc roots loc has =
    let root = from_flat locs_of roots loc has in
    let sub = from_map (loc_of root.item) (up_from 0 root.item.capacity) loc root.within in
    let low = up_has 0 root.item.capacity sub.item sub.has in
    record {
      root = root.item;
      has = root.has;
      x = ap (λ l. l.x) sub.is;
      y = ap (λ l. l.y) sub.is;
      tile = ap (λ l. l.tile) sub.is;
      sub = omega (arith, ap (λ l. l.sub) sub.is, low.1);
    }

pub loc_is_listed : (roots : List TileRoot) (loc : LocAt) → IsLoc roots loc → Has (flat_map locs_of roots) loc
loc_is_listed roots loc is =
    let n = loc.sub in
    let there = has_map (loc_of is.root) (up_from 0 is.root.capacity) n (has_up 0 is.root.capacity n (omega arith) (omega (arith, is.sub))) in
    let same : loc_of is.root n ≡ loc =
    ap (λ v. made v is.root.y is.root.tile) (sym is.x) ∙ ap (λ v. made loc.x v is.root.tile) (sym is.y) ∙ ap (λ v. made loc.x loc.y v) (sym is.tile) in
    has_flat locs_of roots is.root loc is.has (subst (Has (locs_of is.root)) same there)
  where
    made : ℕ → ℕ → ℕ → LocAt
    made x y tile = record { x = x; y = y; sub = loc.sub; tile = tile }

pub one_tile : (roots : List TileRoot) → AreApart roots → (a b : LocAt) → IsLoc roots a → IsLoc roots b → a.x ≡ b.x → a.y ≡ b.y → a.tile ≡ b.tile
one_tile roots apart a b of_a of_b x y =
    let same : place_of of_a.root ≡ place_of of_b.root =
    ap (λ v. (v, of_a.root.y)) (sym of_a.x ∙ x ∙ of_b.x) ∙ ap (λ v. (of_b.root.x, v)) (sym of_a.y ∙ y ∙ of_b.y) in
    let root = one_of_map place_of roots apart of_a.root of_b.root of_a.has of_b.has same in
    of_a.tile ∙ ap (λ r. r.tile) root ∙ sym of_b.tile

pub listed_once : (roots : List TileRoot) → AreApart roots → Once (flat_map locs_of roots)
listed_once roots apart =
    once_flat locs_of roots (once_of_map place_of roots apart)
    (λ root has. once_map (loc_of root) (up_from 0 root.capacity) (once_up 0 root.capacity) (λ m n has_m has_n same. ap (λ l. l.sub) same))
    (λ a b loc has_a has_b in_a in_b.
    let of_a = from_map (loc_of a) (up_from 0 a.capacity) loc in_a in
    let of_b = from_map (loc_of b) (up_from 0 b.capacity) loc in_b in
    let same : loc_of a of_a.item ≡ loc_of b of_b.item = sym of_a.is ∙ of_b.is in
    one_of_map place_of roots apart a b has_a has_b (ap (λ l. (l.x, l.y)) same))

length_up : (n k : ℕ) → length (up_from n k) ≡ k
length_up n zero = refl
length_up n (suc k) = ap suc (length_up (n + 1) k)

length_one : (root : TileRoot) → length (locs_of root) ≡ root.capacity
length_one root = length-map (up_from 0 root.capacity) (loc_of root) ∙ length_up 0 root.capacity

pub length_listed : (roots : List TileRoot) → length (flat_map locs_of roots) ≡ sum_by (λ root. root.capacity) roots
length_listed roots =
    let same : (λ (root : TileRoot). length (locs_of root)) ≡ (λ (root : TileRoot). root.capacity) = λ i root. length_one root i in
    length-flat_map locs_of roots ∙ ap (λ f. sum_by f roots) same

pub few_locs : (roots : List TileRoot) (items ys : List LocAt) (m n limit : ℕ) → m ≡ length items → n ≡ length ys → n ≡ m → items ≡ flat_map locs_of roots →
    sum_by (λ root. root.capacity) roots ≤ limit → length ys ≤ limit
few_locs roots items ys m n limit is_m is_n same is low = omega (arith, is_m, is_n, same, ap length is, length_listed roots, low)

-- one sub more
pub next_sub : (root : TileRoot) (locs before : List LocAt) (sub : ℕ) → sub < root.capacity →
    locs ++ map (loc_of root) (up_from sub (root.capacity - sub)) ≡ before →
    (locs ++ loc_of root sub ∷ []) ++ map (loc_of root) (up_from (sub + 1) (root.capacity - (sub + 1))) ≡ before
next_sub root locs before sub low is =
    let left : root.capacity - sub ≡ suc (root.capacity - (sub + 1)) = omega arith in
    append_assoc locs (loc_of root sub ∷ []) (map (loc_of root) (up_from (sub + 1) (root.capacity - (sub + 1)))) ∙
    ap (λ n. locs ++ map (loc_of root) (up_from sub n)) (sym left) ∙ is
