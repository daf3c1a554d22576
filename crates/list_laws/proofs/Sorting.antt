-- A list in a strict order is known by its elements.
use Rattle.std.proofs.Common.{◌≡◌, ◌<◌, ◌+◌, ◌⊎◌, ℕ, zero, suc, Bool, true, false, if◌then◌else◌, List, [], ◌∷◌, map, filter, refl, sym, ◌∙◌, subst, inl, inr, arith}
use Rattle.vtr_base.specs.Lists.{Has, up_from}
use Rattle.list_laws.specs.Orders.{Ordered, StandOrdered, HaveSame}
use Rattle.list_laws.proofs.Members.{at_has, from_map, from_filter, up_has}

pub ordered_of : {X : Type 0} (Before : X → X → Type 0) (xs : List X) → StandOrdered Before xs → Ordered Before xs
ordered_of Before [] stand = tt
ordered_of Before (x ∷ xs) stand = (
  λ y has. (let r = at_has xs y has in stand 0 (suc r.0) x y (omega arith) refl r.1),
  ordered_of Before xs (λ i j y z less at_i at_j. stand (suc i) (suc j) y z (omega arith) at_i at_j),
)

pub one_sorting : {X : Type 0} (Before : X → X → Type 0) → ((x : X) → Before x x → ⊥) → ((x y z : X) → Before x y → Before y z → Before x z) →
    (xs ys : List X) → Ordered Before xs → Ordered Before ys → HaveSame xs ys → xs ≡ ys
one_sorting Before strict along [] [] by_xs by_ys same = refl
one_sorting Before strict along [] (y ∷ ys) by_xs by_ys same = absurd (same.back y (inl refl))
one_sorting Before strict along (x ∷ xs) [] by_xs by_ys same = absurd (same.forth x (inl refl))
one_sorting {X} Before strict along (x ∷ xs) (y ∷ ys) by_xs by_ys same =
    let first = heads (same.forth x (inl refl)) (same.back y (inl refl)) in
    let rest = one_sorting Before strict along xs ys by_xs.1 by_ys.1 (record {
      forth = λ z has. left first z has (same.forth z (inr has));
      back = λ z has. right first z has (same.back z (inr has));
    }) in cc
  where
    heads : (x ≡ y) ⊎ Has ys x → (y ≡ x) ⊎ Has xs y → x ≡ y
    heads (inl is) other = is
    heads (inr later) (inl is) = sym is
    heads (inr later) (inr after) = absurd (strict x (along x y x (by_xs.0 y after) (by_ys.0 x later)))

    left : x ≡ y → (z : X) → Has xs z → (z ≡ y) ⊎ Has ys z → Has ys z
    left first z has (inl is) = absurd (strict x (subst (λ w. Before x w) (is ∙ sym first) (by_xs.0 z has)))
    left first z has (inr later) = later

    right : x ≡ y → (z : X) → Has ys z → (z ≡ x) ⊎ Has xs z → Has xs z
    right first z has (inl is) = absurd (strict y (subst (λ w. Before y w) (is ∙ first) (by_ys.0 z has)))
    right first z has (inr later) = later

-- lists that are made of others stay in order

pub ordered_filter : {X : Type 0} (Before : X → X → Type 0) (p : X → Bool) (xs : List X) → Ordered Before xs → Ordered Before (filter p xs)
ordered_filter Before p [] by_xs = tt
ordered_filter {X} Before p (x ∷ xs) by_xs = by (p x) (ordered_filter Before p xs by_xs.1)
  where
    by : (b : Bool) → Ordered Before (filter p xs) → Ordered Before (if b then x ∷ filter p xs else filter p xs)
    by true rest = (λ y has. by_xs.0 y (from_filter p xs y has).0, rest)
    by false rest = rest

pub ordered_map : {A B : Type 0} (Before : B → B → Type 0) (f : A → B) (xs : List A) → Ordered (λ a b. Before (f a) (f b)) xs → Ordered Before (map f xs)
ordered_map Before f [] by_xs = tt
ordered_map Before f (x ∷ xs) by_xs = (
  λ y has. (let r = from_map f xs y has in subst (λ w. Before (f x) w) (sym r.is) (by_xs.0 r.item r.has)),
  ordered_map Before f xs by_xs.1,
)

pub ordered_up : (n k : ℕ) → Ordered ◌<◌ (up_from n k)
ordered_up n zero = tt
ordered_up n (suc k) = (λ m has. (let r = up_has (n + 1) k m has in omega (arith, r.0)), ordered_up (n + 1) k)
