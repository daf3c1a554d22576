-- Lists side by side, and what holds of each item, one item more at a time.
use Rattle.std.proofs.Common.{◌≡◌, ◌<◌, ◌≤◌, ◌+◌, ℕ, zero, suc, Bool, true, false, Option, Some, None, MatchOption, List, [], ◌∷◌, ◌++◌, length, map, take, get_or, append-nil, refl, sym, ap, ◌∙◌, subst, arith}
use Rattle.std.specs.List.{All}
use Rattle.std.proofs.lemmas.List.{map-append, take_more, take_all}
use Rattle.std.proofs.lemmas.List.Elements.{All-head, All-tail, All-cons, All-nil, All-append}
use Rattle.meta_lines.specs.Each.{Each}

pub map_more : {A B : Type 0} (f : A → B) (xs : List A) (k : ℕ) (d : A) → k < length xs → map f (take (k + 1) xs) ≡ map f (take k xs) ++ f (get_or xs k d) ∷ []
map_more f xs k d within = ap (map f) (take_more xs k d within) ∙ map-append f (take k xs) (get_or xs k d ∷ [])

pub map_whole : {A B : Type 0} (f : A → B) (xs : List A) (k : ℕ) → length xs ≤ k → map f (take k xs) ≡ map f xs
map_whole f xs k whole = ap (map f) (take_all k xs whole)

pub all_push : {B : Type 0} (P : B → Type 0) (ys : List B) (y : B) → All P ys → P y → All P (ys ++ y ∷ [])
all_push P ys y all is = All-append P ys (y ∷ []) all (All-cons P y [] is (All-nil P))

pub all_more : {A B : Type 0} (P : B → Type 0) (f : A → B) (xs : List A) (k : ℕ) (d : A) → k < length xs → All P (map f (take k xs)) → P (f (get_or xs k d)) → All P (map f (take (k + 1) xs))
all_more P f xs k d within all is = subst (All P) (sym (map_more f xs k d within)) (all_push P (map f (take k xs)) (f (get_or xs k d)) all is)

pub all_at : {A B : Type 0} (P : B → Type 0) (f : A → B) (xs : List A) (k : ℕ) (d : A) → k < length xs → All P (map f xs) → P (f (get_or xs k d))
all_at P f [] k d within all = absurd (omega (arith, within))
all_at P f (x ∷ xs) zero d within all = All-head P (f x) (map f xs) all
all_at P f (x ∷ xs) (suc k) d within all = all_at P f xs k d (omega (arith, within)) (All-tail P (f x) (map f xs) all)

pub each_push : {A B : Type 0} (R : A → B → Type 0) (xs : List A) (ys : List B) (x : A) (y : B) → Each R xs ys → R x y → Each R (xs ++ x ∷ []) (ys ++ y ∷ [])
each_push R [] ys x y each is = subst (λ l. Each R (x ∷ []) (l ++ y ∷ [])) (sym each) (is, refl)
each_push R (a ∷ xs) [] x y each is = absurd each
each_push R (a ∷ xs) (b ∷ ys) x y each is = (each.0, each_push R xs ys x y each.1 is)

pub each_more : {A B C : Type 0} (R : B → C → Type 0) (f : A → B) (xs : List A) (k : ℕ) (d : A) (ys : List C) (y : C) → k < length xs →
    Each R (map f (take k xs)) ys → R (f (get_or xs k d)) y → Each R (map f (take (k + 1) xs)) (ys ++ y ∷ [])
each_more R f xs k d ys y within each is = subst (λ l. Each R l (ys ++ y ∷ [])) (sym (map_more f xs k d within)) (each_push R (map f (take k xs)) ys (f (get_or xs k d)) y each is)

pub each_at : {A B C : Type 0} (R : B → C → Type 0) (f : A → B) (xs : List A) (k : ℕ) (d : A) (ys : List C) → k < length xs → Each R (map f xs) ys → (y : C) × R (f (get_or xs k d)) y
each_at R f [] k d ys within each = absurd (omega (arith, within))
each_at R f (x ∷ xs) k d [] within each = absurd each
each_at R f (x ∷ xs) zero d (y ∷ ys) within each = (y, each.0)
each_at R f (x ∷ xs) (suc k) d (y ∷ ys) within each = each_at R f xs k d ys (omega (arith, within)) each.1

pub one_each : {A B : Type 0} (R : A → B → Type 0) → ((x : A) (y z : B) → R x y → R x z → y ≡ z) → (xs : List A) (ys zs : List B) → Each R xs ys → Each R xs zs → ys ≡ zs
one_each R one [] ys zs a b = a ∙ sym b
one_each R one (x ∷ xs) [] zs a b = absurd a
one_each R one (x ∷ xs) (y ∷ ys) [] a b = absurd b
one_each R one (x ∷ xs) (y ∷ ys) (z ∷ zs) a b =
    let head = one x y z a.0 b.0 in
    let tail = one_each R one xs ys zs a.1 b.1 in
    cc (head, tail)

pub each_all : {A B : Type 0} (R : A → B → Type 0) (P : B → Type 0) → ((x : A) (y : B) → R x y → P y) → (xs : List A) (ys : List B) → Each R xs ys → All P ys
each_all R P on [] ys each = subst (All P) (sym each) (All-nil P)
each_all R P on (x ∷ xs) [] each = absurd each
each_all R P on (x ∷ xs) (y ∷ ys) each = All-cons P y ys (on x y each.0) (each_all R P on xs ys each.1)

-- what is known of an option, by what it is
pub some_says : {A : Type 0} (o : Option A) (x : A) (N : Type 0) (P : A → Type 0) → o ≡ Some x → MatchOption o N P → P x
some_says o x N P is says = subst (λ r. MatchOption r N P) is says

pub none_says : {A : Type 0} (o : Option A) (N : Type 0) (P : A → Type 0) → o ≡ None → MatchOption o N P → N
none_says o N P is says = subst (λ r. MatchOption r N P) is says

-- what is said of a value that may be there, said in other words
pub in_other_words : {A : Type 0} (o : Option A) (N M : Type 0) (P Q : A → Type 0) → (N → M) → ((x : A) → P x → Q x) → MatchOption o N P → MatchOption o M Q
in_other_words None N M P Q none some is = none is
in_other_words (Some x) N M P Q none some is = some x is

pub untrue : (v : Bool) → v ≡ false → v ≡ true → ⊥
untrue v f t = cc
