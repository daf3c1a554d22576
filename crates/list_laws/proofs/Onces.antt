-- Lists in which nothing stands twice.
use Rattle.std.proofs.Common.{◌≡◌, ◌+◌, ℕ, zero, suc, Bool, true, false, if◌then◌else◌, List, [], ◌∷◌, ◌++◌, Some, map, filter, slice_get, refl, sym, ap, subst, inl, inr, arith}
use Rattle.std.specs.List.{flat_map}
use Rattle.vtr_base.specs.Lists.{Has, up_from}
use Rattle.list_laws.specs.Orders.{Once, StandOnce}
use Rattle.list_laws.proofs.Members.{has_at, at_has, has_either, from_map, from_filter, from_flat, up_has}

-- by places, both ways

pub once_at : {X : Type 0} (xs : List X) → Once xs → (i j : ℕ) (x : X) → slice_get xs i ≡ Some x → slice_get xs j ≡ Some x → i ≡ j
once_at [] once i j x at_i at_j = absurd (cc)
once_at (y ∷ ys) once zero zero x at_i at_j = refl
once_at (y ∷ ys) once zero (suc j) x at_i at_j = absurd (once.0 (subst (Has ys) (cc) (has_at ys j x at_j)))
once_at (y ∷ ys) once (suc i) zero x at_i at_j = absurd (once.0 (subst (Has ys) (cc) (has_at ys i x at_i)))
once_at (y ∷ ys) once (suc i) (suc j) x at_i at_j = ap suc (once_at ys once.1 i j x at_i at_j)

pub once_of : {X : Type 0} (xs : List X) → StandOnce xs → Once xs
once_of [] once = tt
once_of (x ∷ xs) once = (
  λ has. (let place = at_has xs x has in absurd (apart place.0 (once 0 (suc place.0) x refl place.1))),
  once_of xs (λ i j y at_i at_j. same i j (once (suc i) (suc j) y at_i at_j)),
)
  where
    apart : (k : ℕ) → 0 ≡ suc k → ⊥
    apart k e = omega arith

    same : (i j : ℕ) → suc i ≡ suc j → i ≡ j
    same i j e = omega arith

-- lists that are made of others

pub once_append : {X : Type 0} (xs ys : List X) → Once xs → Once ys → ((x : X) → Has xs x → Has ys x → ⊥) → Once (xs ++ ys)
once_append [] ys once_xs once_ys apart = once_ys
once_append (x ∷ xs) ys once_xs once_ys apart = (
  λ has. elim (has_either xs ys x has) [ inl left ↦ once_xs.0 left | inr right ↦ apart x (inl refl) right ],
  once_append xs ys once_xs.1 once_ys (λ z left right. apart z (inr left) right),
)

pub once_pushed : {X : Type 0} (xs : List X) (y : X) → Once xs → (Has xs y → ⊥) → Once (xs ++ y ∷ [])
once_pushed {X} xs y once fresh = once_append xs (y ∷ []) once (λ none. none, tt) apart
  where
    apart : (x : X) → Has xs x → Has (y ∷ []) x → ⊥
    apart x has (inl is) = fresh (subst (Has xs) is has)
    apart x has (inr none) = none

pub once_map : {A B : Type 0} (f : A → B) (xs : List A) → Once xs → ((x z : A) → Has xs x → Has xs z → f x ≡ f z → x ≡ z) → Once (map f xs)
once_map f [] once one = tt
once_map f (x ∷ xs) once one = (
  λ has. (let r = from_map f xs (f x) has in once.0 (subst (λ w. Has xs w) (sym (one x r.item (inl refl) (inr r.has) r.is)) r.has)),
  once_map f xs once.1 (λ z w h k. one z w (inr h) (inr k)),
)

pub once_filter : {X : Type 0} (p : X → Bool) (xs : List X) → Once xs → Once (filter p xs)
once_filter p [] once = tt
once_filter {X} p (x ∷ xs) once = by (p x) (once_filter p xs once.1)
  where
    by : (b : Bool) → Once (filter p xs) → Once (if b then x ∷ filter p xs else filter p xs)
    by true rest = (λ has. once.0 (from_filter p xs x has).0, rest)
    by false rest = rest

pub once_flat : {A B : Type 0} (f : A → List B) (xs : List A) → Once xs → ((x : A) → Has xs x → Once (f x)) →
    ((x z : A) (y : B) → Has xs x → Has xs z → Has (f x) y → Has (f z) y → x ≡ z) → Once (flat_map f xs)
once_flat f [] once each apart = tt
once_flat f (x ∷ xs) once each apart =
    once_append (f x) (flat_map f xs) (each x (inl refl))
    (once_flat f xs once.1 (λ z h. each z (inr h)) (λ z w y h k. apart z w y (inr h) (inr k)))
    (λ y here later.
    let r = from_flat f xs y later in
    once.0 (subst (λ w. Has xs w) (sym (apart x r.item y (inl refl) (inr r.has) here r.within)) r.has))

pub once_up : (n k : ℕ) → Once (up_from n k)
once_up n zero = tt
once_up n (suc k) = (λ has. (let r = up_has (n + 1) k n has in absurd (omega (arith, r.0))), once_up (n + 1) k)
