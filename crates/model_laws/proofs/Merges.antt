-- Lists that are merged: their elements, their sums, and that nothing stands twice in both.
use Rattle.std.proofs.Common.{◌≡◌, ◌+◌, inl, inr, ℕ, List, [], ◌∷◌, ◌++◌, refl, sym, ap, subst, arith}
use Rattle.std.specs.List.{All, flat_map, sum_by}
use Rattle.std.proofs.lemmas.List.Elements.{All-nil, All-cons}
use Rattle.std.proofs.lemmas.List.Concat.{flat_map-append}
use Rattle.std.proofs.lemmas.List.Sums.{sum_by-cons}
use Rattle.vtr_base.specs.Lists.{Has}
use Rattle.list_laws.specs.Orders.{Once}
use Rattle.list_laws.proofs.Members.{has_left, has_right, has_either, from_flat, has_flat}
use Rattle.list_laws.proofs.Onces.{once_append}
use Rattle.net_types.specs.Merges.{IsMerge}

pub all_of : {X : Type 0} (P : X → Type 0) (xs : List X) → ((x : X) → Has xs x → P x) → All P xs
all_of P [] each = All-nil P
all_of P (x ∷ xs) each = All-cons P x xs (each x (inl refl)) (all_of P xs (λ y has. each y (inr has)))

-- elements

pub left_has : {X : Type 0} (xs ys zs : List X) (x : X) → IsMerge xs ys zs → Has xs x → Has zs x
left_has xs ys [] x m has = subst (λ l. Has l x) m.0 has
left_has xs ys (z ∷ zs) x (inl m) has = elim (subst (λ l. Has l x) m.1 has) [ inl is ↦ inl is | inr later ↦ inr (left_has m.0 ys zs x m.2 later) ]
left_has xs ys (z ∷ zs) x (inr m) has = inr (left_has xs m.0 zs x m.2 has)

pub right_has : {X : Type 0} (xs ys zs : List X) (x : X) → IsMerge xs ys zs → Has ys x → Has zs x
right_has xs ys [] x m has = subst (λ l. Has l x) m.1 has
right_has xs ys (z ∷ zs) x (inl m) has = inr (right_has m.0 ys zs x m.2 has)
right_has xs ys (z ∷ zs) x (inr m) has = elim (subst (λ l. Has l x) m.1 has) [ inl is ↦ inl is | inr later ↦ inr (right_has xs m.0 zs x m.2 later) ]

-- sums

pub merge_sum : {X : Type 0} (f : X → ℕ) (xs ys zs : List X) → IsMerge xs ys zs → sum_by f zs ≡ sum_by f xs + sum_by f ys
merge_sum f xs ys [] m = omega (arith, ap (sum_by f) m.0, ap (sum_by f) m.1)
merge_sum f xs ys (z ∷ zs) (inl m) = omega (arith, merge_sum f m.0 ys zs m.2, sum_by-cons f z zs, ap (sum_by f) m.1, sum_by-cons f z m.0)
merge_sum f xs ys (z ∷ zs) (inr m) = omega (arith, merge_sum f xs m.0 zs m.2, sum_by-cons f z zs, ap (sum_by f) m.1, sum_by-cons f z m.0)

-- nothing twice

pub record AreApart {Y : Type 0} (xs ys : List Y) : Type 0 where
  pub left : Once xs
  pub right : Once ys
  pub never : (y : Y) → Has xs y → Has ys y → ⊥

pub once_split : {Y : Type 0} (xs ys : List Y) → Once (xs ++ ys) → AreApart xs ys
once_split [] ys once = record { left = tt; right = once; never = λ y has other. has }
once_split (x ∷ xs) ys once =
    let rest = once_split xs ys once.1 in
    record {
      left = (λ has. once.0 (has_left xs ys x has), rest.left);
      right = rest.right;
      never = λ y has other. elim has [
        | inl is ↦ once.0 (has_right xs ys x (subst (Has ys) is other))
        | inr later ↦ rest.never y later other
      ];
    }

flat_left : {X Y : Type 0} (g : X → List Y) (xs ys zs : List X) (y : Y) → IsMerge xs ys zs → Has (flat_map g xs) y → Has (flat_map g zs) y
flat_left g xs ys zs y m has = let r = from_flat g xs y has in has_flat g zs r.item y (left_has xs ys zs r.item m r.has) r.within

flat_right : {X Y : Type 0} (g : X → List Y) (xs ys zs : List X) (y : Y) → IsMerge xs ys zs → Has (flat_map g ys) y → Has (flat_map g zs) y
flat_right g xs ys zs y m has = let r = from_flat g ys y has in has_flat g zs r.item y (right_has xs ys zs r.item m r.has) r.within

apart_more : {Y : Type 0} (first rest others all : List Y) → AreApart first all → AreApart rest others → ((y : Y) → Has rest y → Has all y) → ((y : Y) → Has others y → Has all y) →
    AreApart (first ++ rest) others
apart_more first rest others all a b in_rest in_others = record {
  left = once_append first rest a.left b.left (λ y here later. a.never y here (in_rest y later));
  right = b.right;
  never = λ y has other. elim (has_either first rest y has) [
    | inl here ↦ a.never y here (in_others y other)
    | inr later ↦ b.never y later other
  ];
}

apart_swap : {Y : Type 0} (xs ys : List Y) → AreApart xs ys → AreApart ys xs
apart_swap xs ys a = record { left = a.right; right = a.left; never = λ y has other. a.never y other has }

pub merge_apart : {X Y : Type 0} (g : X → List Y) (xs ys zs : List X) → IsMerge xs ys zs → Once (flat_map g zs) → AreApart (flat_map g xs) (flat_map g ys)
merge_apart g xs ys [] m once = record {
  left = subst (λ l. Once (flat_map g l)) (sym m.0) tt;
  right = subst (λ l. Once (flat_map g l)) (sym m.1) tt;
  never = λ y has other. subst (λ l. Has (flat_map g l) y) m.0 has;
}
merge_apart g xs ys (z ∷ zs) (inl m) once =
    let whole = once_split (g z) (flat_map g zs) once in
    let rest = merge_apart g m.0 ys zs m.2 whole.right in
    subst (λ l. AreApart (flat_map g l) (flat_map g ys)) (sym m.1)
    (apart_more (g z) (flat_map g m.0) (flat_map g ys) (flat_map g zs) whole rest (λ y has. flat_left g m.0 ys zs y m.2 has) (λ y has. flat_right g m.0 ys zs y m.2 has))
merge_apart g xs ys (z ∷ zs) (inr m) once =
    let whole = once_split (g z) (flat_map g zs) once in
    let rest = merge_apart g xs m.0 zs m.2 whole.right in
    let turned = apart_swap (flat_map g xs) (flat_map g m.0) rest in
    subst (λ l. AreApart (flat_map g xs) (flat_map g l)) (sym m.1)
    (apart_swap (g z ++ flat_map g m.0) (flat_map g xs)
    (apart_more (g z) (flat_map g m.0) (flat_map g xs) (flat_map g zs) whole turned (λ y has. flat_right g xs m.0 zs y m.2 has) (λ y has. flat_left g xs m.0 zs y m.2 has)))

pub merge_once : {X Y : Type 0} (g : X → List Y) (xs ys zs : List X) → IsMerge xs ys zs → Once (flat_map g zs) → Once (flat_map g (xs ++ ys))
merge_once g xs ys zs m once =
    let a = merge_apart g xs ys zs m once in
    subst Once (sym (flat_map-append g xs ys)) (once_append (flat_map g xs) (flat_map g ys) a.left a.right a.never)

-- of three lists, two of which are merged first
pub merges_once : {X Y : Type 0} (g : X → List Y) (xs ys zs pads all : List X) → IsMerge xs ys pads → IsMerge pads zs all → Once (flat_map g all) → Once (flat_map g (xs ++ (ys ++ zs)))
merges_once g xs ys zs pads all first then' once =
    let outer = merge_apart g pads zs all then' once in
    let inner = merge_apart g xs ys pads first outer.left in
    let behind : Once (flat_map g (ys ++ zs)) = subst Once (sym (flat_map-append g ys zs))
    (once_append (flat_map g ys) (flat_map g zs) inner.right outer.right (λ y has other. outer.never y (flat_right g xs ys pads y first has) other)) in
    subst Once (sym (flat_map-append g xs (ys ++ zs)))
    (once_append (flat_map g xs) (flat_map g (ys ++ zs)) inner.left behind (λ y has other.
    elim (has_either (flat_map g ys) (flat_map g zs) y (subst (λ l. Has l y) (flat_map-append g ys zs) other)) [
      | inl mid ↦ inner.never y has mid
      | inr last ↦ outer.never y (flat_left g xs ys pads y first has) last
    ]))

pub merges_has : {X : Type 0} (xs ys zs pads all : List X) (x : X) → IsMerge xs ys pads → IsMerge pads zs all → Has (xs ++ (ys ++ zs)) x → Has all x
merges_has xs ys zs pads all x first then' has = elim (has_either xs (ys ++ zs) x has) [
  | inl here ↦ left_has pads zs all x then' (left_has xs ys pads x first here)
  | inr later ↦ elim (has_either ys zs x later) [
    | inl mid ↦ left_has pads zs all x then' (right_has xs ys pads x first mid)
    | inr last ↦ right_has pads zs all x then' last
  ]
]
