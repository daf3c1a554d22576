-- Lists that are merged: their elements, what passes a test, and that nothing stands twice.
use Rattle.std.proofs.Common.{◌≡◌, ◌⊎◌, inl, inr, ℕ, Bool, true, false, if◌then◌else◌, List, [], ◌∷◌, ◌++◌, filter, refl, sym, ap, ◌∙◌, subst}
use Rattle.std.specs.List.{flat_map}
use Rattle.std.proofs.lemmas.List.Concat.{flat_map-append}
use Rattle.vtr_base.specs.Lists.{Has}
use Rattle.list_laws.specs.Orders.{Once}
use Rattle.list_laws.proofs.Members.{has_left, has_right, has_either, from_flat, has_flat}
use Rattle.list_laws.proofs.Onces.{once_append}
use Rattle.net_types.specs.Merges.{IsMerge}

pub from_merge : {X : Type 0} (xs ys zs : List X) (x : X) → IsMerge xs ys zs → Has zs x → Has xs x ⊎ Has ys x
from_merge xs ys [] x m has = absurd has
from_merge xs ys (z ∷ zs) x (inl m) (inl is) = inl (subst (λ l. Has l x) (sym m.1) (inl is))
from_merge xs ys (z ∷ zs) x (inl m) (inr later) = elim (from_merge m.0 ys zs x m.2 later) [ inl left ↦ inl (subst (λ l. Has l x) (sym m.1) (inr left)) | inr right ↦ inr right ]
from_merge xs ys (z ∷ zs) x (inr m) (inl is) = inr (subst (λ l. Has l x) (sym m.1) (inl is))
from_merge xs ys (z ∷ zs) x (inr m) (inr later) = elim (from_merge xs m.0 zs x m.2 later) [ inl left ↦ inl left | inr right ↦ inr (subst (λ l. Has l x) (sym m.1) (inr right)) ]

-- what passes a test

pub filter_left : {X : Type 0} (p : X → Bool) (xs ys zs : List X) → IsMerge xs ys zs → filter p ys ≡ [] → filter p zs ≡ filter p xs
filter_left p xs ys [] m none = ap (filter p) (sym m.0)
filter_left p xs ys (z ∷ zs) (inl m) none = by (p z) (filter_left p m.0 ys zs m.2 none) ∙ ap (filter p) (sym m.1)
  where
    by : (b : Bool) → filter p zs ≡ filter p m.0 → (if b then z ∷ filter p zs else filter p zs) ≡ (if b then z ∷ filter p m.0 else filter p m.0)
    by true rest = ap (λ l. z ∷ l) rest
    by false rest = rest
filter_left p xs ys (z ∷ zs) (inr m) none = by (p z) (sym (ap (filter p) m.1) ∙ none) (filter_left p xs m.0 zs m.2)
  where
    by : (b : Bool) → (if b then z ∷ filter p m.0 else filter p m.0) ≡ [] → (filter p m.0 ≡ [] → filter p zs ≡ filter p xs) → (if b then z ∷ filter p zs else filter p zs) ≡ filter p xs
    by true here rest = absurd (let bad : ⊥ = cc here in bad)
    by false here rest = rest here

merge_swap : {X : Type 0} (xs ys zs : List X) → IsMerge xs ys zs → IsMerge ys xs zs
merge_swap xs ys [] m = (m.1, m.0)
merge_swap xs ys (z ∷ zs) (inl m) = inr (m.0, m.1, merge_swap m.0 ys zs m.2)
merge_swap xs ys (z ∷ zs) (inr m) = inl (m.0, m.1, merge_swap xs m.0 zs m.2)

pub filter_right : {X : Type 0} (p : X → Bool) (xs ys zs : List X) → IsMerge xs ys zs → filter p xs ≡ [] → filter p zs ≡ filter p ys
filter_right p xs ys zs m none = filter_left p ys xs zs (merge_swap xs ys zs m) none

-- nothing twice

pub record AreApart {Y : Type 0} (xs ys : List Y) : Type 0 where
  pub left : Once xs
  pub right : Once ys
  pub never : (y : Y) → Has xs y → Has ys y → ⊥

pub once_split : {Y : Type 0} (xs ys : List Y) → Once (xs ++ ys) → AreApart xs ys
once_split [] ys once = record { left = tt; right = once; never = λ y has other. has }
once_split (x ∷ xs) ys once =
    let rest = once_split xs ys once.1 in
    record {
      left = (λ has. once.0 (has_left xs ys x has), rest.left);
      right = rest.right;
      never = λ y has other. elim has [
        | inl is ↦ once.0 (has_right xs ys x (subst (Has ys) is other))
        | inr later ↦ rest.never y later other
      ];
    }

apart_swap : {Y : Type 0} (xs ys : List Y) → AreApart xs ys → AreApart ys xs
apart_swap xs ys a = record { left = a.right; right = a.left; never = λ y has other. a.never y other has }

-- behind some elements what is left of the one list is apart from the other one
apart_rest : {Y : Type 0} (first rest ys : List Y) → AreApart (first ++ rest) ys → AreApart rest ys
apart_rest first rest ys a = record { left = (once_split first rest a.left).right; right = a.right; never = λ y has other. a.never y (has_right first rest y has) other }

flat_from : {X Y : Type 0} (g : X → List Y) (xs ys zs : List X) (y : Y) → IsMerge xs ys zs → Has (flat_map g zs) y → Has (flat_map g xs) y ⊎ Has (flat_map g ys) y
flat_from g xs ys zs y m has =
    let r = from_flat g zs y has in
    elim (from_merge xs ys zs r.item m r.has) [ inl left ↦ inl (has_flat g xs r.item y left r.within) | inr right ↦ inr (has_flat g ys r.item y right r.within) ]

pub merge_once : {X Y : Type 0} (g : X → List Y) (xs ys zs : List X) → IsMerge xs ys zs → AreApart (flat_map g xs) (flat_map g ys) → Once (flat_map g zs)
merge_once g xs ys [] m apart = tt
merge_once g xs ys (z ∷ zs) (inl m) apart =
    let here : AreApart (g z ++ flat_map g m.0) (flat_map g ys) = subst (λ l. AreApart (flat_map g l) (flat_map g ys)) m.1 apart in
    let rest = merge_once g m.0 ys zs m.2 (apart_rest (g z) (flat_map g m.0) (flat_map g ys) here) in
    let parts = once_split (g z) (flat_map g m.0) here.left in
    once_append (g z) (flat_map g zs) parts.left rest (λ y has later. elim (flat_from g m.0 ys zs y m.2 later) [
      | inl left ↦ parts.never y has left
      | inr right ↦ here.never y (has_left (g z) (flat_map g m.0) y has) right
    ])
merge_once g xs ys (z ∷ zs) (inr m) apart =
    let here : AreApart (g z ++ flat_map g m.0) (flat_map g xs) = subst (λ l. AreApart (flat_map g l) (flat_map g xs)) m.1 (apart_swap (flat_map g xs) (flat_map g ys) apart) in
    let rest = merge_once g xs m.0 zs m.2 (apart_swap (flat_map g m.0) (flat_map g xs) (apart_rest (g z) (flat_map g m.0) (flat_map g xs) here)) in
    let parts = once_split (g z) (flat_map g m.0) here.left in
    once_append (g z) (flat_map g zs) parts.left rest (λ y has later. elim (flat_from g xs m.0 zs y m.2 later) [
      | inl left ↦ here.never y (has_left (g z) (flat_map g m.0) y has) left
      | inr right ↦ parts.never y has right
    ])

-- of three lists, two of which are merged first
pub merges_once : {X Y : Type 0} (g : X → List Y) (xs ys zs pads all : List X) → IsMerge xs ys pads → IsMerge pads zs all → Once (flat_map g (xs ++ (ys ++ zs))) → Once (flat_map g all)
merges_once g xs ys zs pads all first then' once =
    let cut : flat_map g (xs ++ (ys ++ zs)) ≡ flat_map g xs ++ (flat_map g ys ++ flat_map g zs) =
    flat_map-append g xs (ys ++ zs) ∙ ap (λ l. flat_map g xs ++ l) (flat_map-append g ys zs) in
    let outer = once_split (flat_map g xs) (flat_map g ys ++ flat_map g zs) (subst Once cut once) in
    let inner = once_split (flat_map g ys) (flat_map g zs) outer.right in
    let pads_once = merge_once g xs ys pads first (record { left = outer.left; right = inner.left; never = λ y has other. outer.never y has (has_left (flat_map g ys) (flat_map g zs) y other) }) in
    merge_once g pads zs all then' (record {
      left = pads_once;
      right = inner.right;
      never = λ y has other. elim (flat_from g xs ys pads y first has) [
        | inl left ↦ outer.never y left (has_right (flat_map g ys) (flat_map g zs) y other)
        | inr right ↦ inner.never y right other
      ];
    })
