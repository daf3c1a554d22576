-- Reading lists.
use Rattle.std.proofs.Common.{◌≡◌, ◌+◌, ◌<◌, ◌≤◌, ◌⊎◌, ℕ, zero, suc, Bool, true, false, not, nat_lt, cond, List, [], ◌∷◌, ◌++◌, Option, Some, None, MatchOption, length, get_or, slice_get, map, Bor, position, refl, sym, ap, ◌∙◌, inl, inr, arith}
use Rattle.std.proofs.lemmas.Option.{slice_get_within, slice_get-get_or, get_or_from_slice_get, slice_get-map, slice_get_read}
use Rattle.std.proofs.lemmas.List.Sums.{fails_before_first, prefix_len_stops}
use Rattle.std.proofs.lemmas.Bool.Decides.{nat_tests}
use Rattle.std.specs.List.{position_or_len, All}
use Rattle.std.specs.Option.{option_map}
use Rattle.vtr_base.specs.Lists.{Has}

pub get_front : {X : Type 0} (xs ys : List X) (k : ℕ) (x : X) → slice_get xs k ≡ Some x → slice_get (xs ++ ys) k ≡ Some x
get_front [] ys k x e = cc
get_front (y ∷ xs) ys zero x e = e
get_front (y ∷ xs) ys (suc k) x e = get_front xs ys k x e

pub get_after : {X : Type 0} (xs ys : List X) (y : X) (k : ℕ) → k ≡ length xs → slice_get (xs ++ y ∷ ys) k ≡ Some y
get_after [] ys y k e = rw e refl
get_after (x ∷ xs) ys y zero e = absurd (omega arith)
get_after (x ∷ xs) ys y (suc k) e = get_after xs ys y k (omega arith)

-- what stands in a list stands in its front or behind it
pub get_either : {X : Type 0} (xs ys : List X) (k : ℕ) (x : X) → slice_get (xs ++ ys) k ≡ Some x →
    (slice_get xs k ≡ Some x) ⊎ ((j : ℕ) × (k ≡ length xs + j) × (slice_get ys j ≡ Some x))
get_either [] ys k x e = inr (k, omega arith, e)
get_either (y ∷ xs) ys zero x e = inl e
get_either (y ∷ xs) ys (suc k) x e = elim (get_either xs ys k x e) [ inl h ↦ inl h | inr h ↦ inr (h.0, omega (arith, h.1), h.2) ]

pub has_at : {X : Type 0} (xs : List X) (k : ℕ) (x : X) → slice_get xs k ≡ Some x → Has xs x
has_at [] k x e = cc
has_at (y ∷ ys) zero x e = inl (cc)
has_at (y ∷ ys) (suc k) x e = inr (has_at ys k x e)

pub at_has : {X : Type 0} (xs : List X) (x : X) → Has xs x → (k : ℕ) × (slice_get xs k ≡ Some x)
at_has [] x h = absurd h
at_has (y ∷ ys) x (inl e) = (0, ap Some (sym e))
at_has (y ∷ ys) x (inr h) = let r = at_has ys x h in (suc r.0, r.1)

-- two lists with one more element are equal in both parts
pub snoc_front : {X : Type 0} (xs ys : List X) (x y : X) → xs ++ x ∷ [] ≡ ys ++ y ∷ [] → xs ≡ ys
snoc_front [] [] x y e = refl
snoc_front [] (b ∷ []) x y e = cc
snoc_front [] (b ∷ (c ∷ ys)) x y e = cc
snoc_front (a ∷ []) [] x y e = cc
snoc_front (a ∷ (c ∷ xs)) [] x y e = cc
snoc_front (a ∷ xs) (b ∷ ys) x y e =
    let heads : a ≡ b = cc in
    let tails : xs ++ x ∷ [] ≡ ys ++ y ∷ [] = cc in
    let rest = snoc_front xs ys x y tails in cc

pub snoc_last : {X : Type 0} (xs ys : List X) (x y : X) → xs ++ x ∷ [] ≡ ys ++ y ∷ [] → x ≡ y
snoc_last [] [] x y e = cc
snoc_last [] (b ∷ []) x y e = cc
snoc_last [] (b ∷ (c ∷ ys)) x y e = cc
snoc_last (a ∷ []) [] x y e = cc
snoc_last (a ∷ (c ∷ xs)) [] x y e = cc
snoc_last (a ∷ xs) (b ∷ ys) x y e = let tails : xs ++ x ∷ [] ≡ ys ++ y ∷ [] = cc in snoc_last xs ys x y tails

pub element : {X : Type 0} (xs : List X) (k : ℕ) → k < length xs → (x : X) × (slice_get xs k ≡ Some x)
element [] k h = absurd (omega arith)
element (x ∷ xs) zero h = (x, refl)
element (x ∷ xs) (suc k) h = element xs k (omega arith)

true_of_not : (b : Bool) → not b ≡ false → b ≡ true
true_of_not true e = refl
true_of_not false e = cc

false_not_true : (b : Bool) → b ≡ false → b ≡ true → ⊥
false_not_true b e f = cc

-- what `position` says, at a test that one element passes
pub place_says : {X : Type 0} (p : X → Bool) (xs : List X) (r : Option ℕ) (x : X) → r ≡ position p xs → ((y : X) → p y ≡ true → y ≡ x) → p x ≡ true →
    MatchOption r ((k : ℕ) → slice_get xs k ≡ Some x → ⊥) (λ k. slice_get xs k ≡ Some x)
place_says {X} p xs r x e only passes = rw e (by (nat_lt (position_or_len p xs) (length xs)) refl)
  where
    by : (b : Bool) → nat_lt (position_or_len p xs) (length xs) ≡ b →
        MatchOption (cond b (Some (position_or_len p xs)) None) ((k : ℕ) → slice_get xs k ≡ Some x → ⊥) (λ k. slice_get xs k ≡ Some x)
    by true t =
        let inside : position_or_len p xs < length xs = grind (arith, nat_tests, t) in
        let y = element xs (position_or_len p xs) inside in
        let read = get_or_from_slice_get xs (position_or_len p xs) y.0 y.0 y.1 in
        let stops = prefix_len_stops (λ z. not (p z)) xs y.0 inside in
        let here : p y.0 ≡ true = true_of_not (p y.0) (ap (λ z. not (p z)) (sym read) ∙ stops) in
        y.1 ∙ ap Some (only y.0 here)
    by false t = λ k at.
        let past : length xs ≤ position_or_len p xs = grind (arith, nat_tests, t) in
        let read = get_or_from_slice_get xs k x x at in
        let fails = fails_before_first p xs k x (omega (arith, slice_get_within xs k x at)) in
        false_not_true (p x) (ap p (sym read) ∙ fails) passes

-- what a read of a list of references gives
pub now_at : {X : Type 0} (xs : List (Bor X)) (k : ℕ) (x : Bor X) → k < length xs → x ≡ get_or xs k x → slice_get (map (λ b. b.now) xs) k ≡ Some x.now
now_at xs k x inside e = slice_get-map (λ (b : Bor _). b.now) xs k ∙ ap (option_map (λ (b : Bor _). b.now)) (slice_get_read xs (length xs) k x refl inside e)

pub get_behind : {X : Type 0} (xs ys : List X) (k : ℕ) (x : X) → slice_get ys k ≡ Some x → slice_get (xs ++ ys) (length xs + k) ≡ Some x
get_behind [] ys k x e = let same : 0 + k ≡ k = omega arith in ap (λ n. slice_get ys n) same ∙ e
get_behind (y ∷ xs) ys k x e =
    let next : length (y ∷ xs) + k ≡ suc (length xs + k) = omega arith in
    ap (λ n. slice_get (y ∷ (xs ++ ys)) n) next ∙ get_behind xs ys k x e

pub read_itself : {X : Type 0} (xs : List X) (k : ℕ) (d : X) → k < length xs → get_or xs k d ≡ get_or xs k (get_or xs k d)
read_itself [] k d inside = absurd (omega arith)
read_itself (x ∷ xs) zero d inside = refl
read_itself (x ∷ xs) (suc k) d inside = read_itself xs k d (omega arith)

-- what holds by places holds of all
pub all_at : {X : Type 0} (P : X → Type 0) (xs : List X) → ((k : ℕ) (x : X) → slice_get xs k ≡ Some x → P x) → All P xs
all_at P xs each k d inside = each k (get_or xs k d) (slice_get-get_or xs k d inside)
