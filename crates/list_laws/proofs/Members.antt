-- What stands in lists that are made of others.
use Rattle.std.proofs.Common.{◌≡◌, ◌+◌, ◌<◌, ◌≤◌, ◌==◌, ◌⊎◌, ℕ, zero, suc, Bool, true, false, if◌then◌else◌, List, [], ◌∷◌, ◌++◌, Some, map, filter, slice_get, refl, sym, ap, ◌∙◌, subst, inl, inr, arith}
use Rattle.std.specs.List.{flat_map, All}
use Rattle.std.proofs.lemmas.Bool.Decides.{nat_tests}
use Rattle.std.proofs.lemmas.Option.{slice_get_within, get_or_from_slice_get}
use Rattle.std.proofs.lemmas.Bool.{false≢true}
use Rattle.vtr_base.specs.Lists.{Has, up_from}

-- by places

pub has_at : {X : Type 0} (xs : List X) (k : ℕ) (x : X) → slice_get xs k ≡ Some x → Has xs x
has_at [] k x at = absurd (cc)
has_at (y ∷ ys) zero x at = inl (cc)
has_at (y ∷ ys) (suc k) x at = inr (has_at ys k x at)

pub at_has : {X : Type 0} (xs : List X) (x : X) → Has xs x → (k : ℕ) × (slice_get xs k ≡ Some x)
at_has [] x has = absurd has
at_has (y ∷ ys) x (inl is) = (0, ap Some (sym is))
at_has (y ∷ ys) x (inr has) = let r = at_has ys x has in (suc r.0, r.1)

-- appended lists

pub has_left : {X : Type 0} (xs ys : List X) (x : X) → Has xs x → Has (xs ++ ys) x
has_left [] ys x has = absurd has
has_left (z ∷ xs) ys x (inl is) = inl is
has_left (z ∷ xs) ys x (inr has) = inr (has_left xs ys x has)

pub has_right : {X : Type 0} (xs ys : List X) (x : X) → Has ys x → Has (xs ++ ys) x
has_right [] ys x has = has
has_right (z ∷ xs) ys x has = inr (has_right xs ys x has)

pub has_either : {X : Type 0} (xs ys : List X) (x : X) → Has (xs ++ ys) x → Has xs x ⊎ Has ys x
has_either [] ys x has = inr has
has_either (z ∷ xs) ys x (inl is) = inl (inl is)
has_either (z ∷ xs) ys x (inr has) = elim (has_either xs ys x has) [ inl left ↦ inl (inr left) | inr right ↦ inr right ]

pub has_last : {X : Type 0} (xs : List X) (x : X) → Has (xs ++ x ∷ []) x
has_last xs x = has_right xs (x ∷ []) x (inl refl)

pub has_pushed : {X : Type 0} (xs : List X) (y x : X) → Has (xs ++ y ∷ []) x → Has xs x ⊎ (x ≡ y)
has_pushed xs y x has = elim (has_either xs (y ∷ []) x has) [ inl front ↦ inl front | inr last ↦ elim last [ inl is ↦ inr is | inr none ↦ absurd none ] ]

-- maps

pub record FromMap {A B : Type 0} (f : A → B) (xs : List A) (y : B) : Type 0 where
  pub item : A
  pub has : Has xs item
  pub is : y ≡ f item

pub from_map : {A B : Type 0} (f : A → B) (xs : List A) (y : B) → Has (map f xs) y → FromMap f xs y
from_map f [] y has = absurd has
from_map f (x ∷ xs) y (inl is) = record { item = x; has = inl refl; is = is }
from_map f (x ∷ xs) y (inr has) = let r = from_map f xs y has in record { item = r.item; has = inr r.has; is = r.is }

pub has_map : {A B : Type 0} (f : A → B) (xs : List A) (x : A) → Has xs x → Has (map f xs) (f x)
has_map f [] x has = absurd has
has_map f (z ∷ xs) x (inl is) = inl (ap f is)
has_map f (z ∷ xs) x (inr has) = inr (has_map f xs x has)

-- filters

pub has_filter : {X : Type 0} (p : X → Bool) (xs : List X) (x : X) → Has xs x → p x ≡ true → Has (filter p xs) x
has_filter p [] x has passes = absurd has
has_filter {X} p (z ∷ xs) x has passes = by (p z) refl has (λ later. has_filter p xs x later passes)
  where
    by : (b : Bool) → p z ≡ b → Has (z ∷ xs) x → (Has xs x → Has (filter p xs) x) → Has (if b then z ∷ filter p xs else filter p xs) x
    by true e (inl is) rest = inl is
    by true e (inr later) rest = inr (rest later)
    by false e (inl is) rest = absurd (false≢true (sym e ∙ ap p (sym is) ∙ passes))
    by false e (inr later) rest = rest later

pub from_filter : {X : Type 0} (p : X → Bool) (xs : List X) (x : X) → Has (filter p xs) x → Has xs x × (p x ≡ true)
from_filter p [] x has = absurd has
from_filter {X} p (z ∷ xs) x has = by (p z) refl has (λ h. from_filter p xs x h)
  where
    later : Has xs x × (p x ≡ true) → Has (z ∷ xs) x × (p x ≡ true)
    later r = (inr r.0, r.1)

    by : (b : Bool) → p z ≡ b → Has (if b then z ∷ filter p xs else filter p xs) x → (Has (filter p xs) x → Has xs x × (p x ≡ true)) →
        Has (z ∷ xs) x × (p x ≡ true)
    by true e (inl is) rest = (inl is, ap p is ∙ e)
    by true e (inr h) rest = later (rest h)
    by false e h rest = later (rest h)

-- lists joined end to end

pub record FromFlat {A B : Type 0} (f : A → List B) (xs : List A) (y : B) : Type 0 where
  pub item : A
  pub has : Has xs item
  pub within : Has (f item) y

pub has_flat : {A B : Type 0} (f : A → List B) (xs : List A) (x : A) (y : B) → Has xs x → Has (f x) y → Has (flat_map f xs) y
has_flat f [] x y has within = absurd has
has_flat f (z ∷ xs) x y (inl is) within = has_left (f z) (flat_map f xs) y (subst (λ w. Has (f w) y) is within)
has_flat f (z ∷ xs) x y (inr has) within = has_right (f z) (flat_map f xs) y (has_flat f xs x y has within)

pub from_flat : {A B : Type 0} (f : A → List B) (xs : List A) (y : B) → Has (flat_map f xs) y → FromFlat f xs y
from_flat f [] y has = absurd has
from_flat f (z ∷ xs) y has =
    elim (has_either (f z) (flat_map f xs) y has) [
      | inl here ↦ record { item = z; has = inl refl; within = here }
      | inr later ↦ let r = from_flat f xs y later in record { item = r.item; has = inr r.has; within = r.within }
    ]

-- ascending numbers

pub up_has : (n k m : ℕ) → Has (up_from n k) m → (n ≤ m) × (m < n + k)
up_has n zero m has = absurd has
up_has n (suc k) m (inl is) = (omega (arith, is), omega (arith, is))
up_has n (suc k) m (inr has) = let r = up_has (n + 1) k m has in (omega (arith, r.0), omega (arith, r.1))

pub has_up : (n k m : ℕ) → n ≤ m → m < n + k → Has (up_from n k) m
has_up n zero m low high = absurd (omega (arith, low, high))
has_up n (suc k) m low high = by (n == m) refl (has_up (n + 1) k m)
  where
    by : (b : Bool) → (n == m) ≡ b → (n + 1 ≤ m → m < (n + 1) + k → Has (up_from (n + 1) k) m) → Has (n ∷ up_from (n + 1) k) m
    by true e rest = let same : n ≡ m = grind (arith, nat_tests) in inl (sym same)
    by false e rest = let other : n < m = grind (arith, nat_tests) in inr (rest (omega (arith, other)) (omega (arith, high)))

-- what holds of each element

pub each_has : {X : Type 0} (P : X → Type 0) (xs : List X) → All P xs → (x : X) → Has xs x → P x
each_has P xs each x has =
    let r = at_has xs x has in
    subst P (get_or_from_slice_get xs r.0 x x r.1) (each r.0 x (slice_get_within xs r.0 x r.1))
