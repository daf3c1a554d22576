-- What holds of the items that a loop has passed.
use Rattle.std.proofs.Common.{◌≡◌, ◌+◌, ◌<◌, ◌≤◌, ◌⊎◌, ℕ, true, false, List, Some, length, get_or, refl, sym, ◌∙◌, subst, inl, inr, arith}
use Rattle.std.specs.List.{slice_get}
use Rattle.std.specs.Str.{bytes_eq}
use Rattle.std.proofs.lemmas.Option.{slice_get_within, slice_get_read}
use Rattle.std.proofs.lemmas.Slice.Eq.{bytes_eq-Decides}

-- of each item before the i-th
abbrev pub Below : {X : Type 0} → (X → Type 0) → List X → ℕ → Type 0
Below {X} P xs i = (k : ℕ) (x : X) → k < i → slice_get xs k ≡ Some x → P x

pub item_get : {X : Type 0} (xs : List X) (i : ℕ) (x : X) → i < length xs → x ≡ get_or xs i x → slice_get xs i ≡ Some x
item_get xs i x inside is = slice_get_read xs (length xs) i x refl inside is

some_same : {X : Type 0} (x y : X) → Some x ≡ Some y → x ≡ y
some_same x y same = cc

below_next : (k i : ℕ) → k < i + 1 → (k < i) ⊎ (k ≡ i)
below_next k i below = grind arith

pub below_step : {X : Type 0} (P : X → Type 0) (xs : List X) (i : ℕ) (x : X) → i < length xs → x ≡ get_or xs i x → Below P xs i → P x → Below P xs (i + 1)
below_step P xs i x inside is before here =
    λ k y below at. elim (below_next k i below) [
      | inl early ↦ before k y early at
      | inr last ↦ subst P (some_same x y (sym (item_get xs i x inside is) ∙ (subst (λ n. slice_get xs n ≡ Some y) last at))) here
    ]

pub below_all : {X : Type 0} (P : X → Type 0) (xs : List X) (i : ℕ) → length xs ≤ i → Below P xs i → (k : ℕ) (x : X) → slice_get xs k ≡ Some x → P x
below_all P xs i whole before = λ k x at. let inside : k < length xs = slice_get_within xs k x at in before k x (omega (arith, inside, whole)) at

pub eq_named : (a b : List ℕ) → bytes_eq a b ≡ true → a ≡ b
eq_named a b is = (bytes_eq-Decides a b).0 is

pub not_named : (a b : List ℕ) → bytes_eq a b ≡ false → a ≡ b → ⊥
not_named a b isn't same = let is : bytes_eq a b ≡ true = (bytes_eq-Decides a b).1 same in cc

pub is_named : (a b : List ℕ) → a ≡ b → bytes_eq a b ≡ true
is_named a b same = (bytes_eq-Decides a b).1 same

-- where one of them isn't so, not all are
pub below_none : {X : Type 0} (P : X → Type 0) (xs ys : List X) (i : ℕ) (x : X) → i < length xs → x ≡ get_or xs i x → xs ≡ ys → (P x → ⊥) →
    ((k : ℕ) (y : X) → slice_get ys k ≡ Some y → P y) → ⊥
below_none P xs ys i x inside is same not all = not (all i x (subst (λ l. slice_get l i ≡ Some x) same (item_get xs i x inside is)))

-- the same of a list that equals the one that the loop went over
pub all_of : {X : Type 0} (P : X → Type 0) (xs ys : List X) (i : ℕ) → length xs ≤ i → xs ≡ ys → Below P xs i → (k : ℕ) (x : X) → slice_get ys k ≡ Some x → P x
all_of P xs ys i whole same before = λ k x at. below_all P xs i whole before k x (subst (λ l. slice_get l k ≡ Some x) (sym same) at)

pub item_of : {X : Type 0} (xs ys : List X) (i : ℕ) (x : X) → i < length xs → x ≡ get_or xs i x → xs ≡ ys → slice_get ys i ≡ Some x
item_of xs ys i x inside is same = subst (λ l. slice_get l i ≡ Some x) same (item_get xs i x inside is)
