-- What a search finds in part of a list.
use Rattle.std.proofs.Common.{◌≡◌, ◌+◌, ◌<◌, ℕ, suc, Bool, true, false, ◌&&◌, if◌then◌else◌, Option, Some, None, Bor, List, [], ◌∷◌, filter, drop, length, get_or, refl, sym, ◌∙◌, ap, add-one, drop-cons}
use Rattle.std.specs.List.{find, flat_map}
use Rattle.std.specs.Option.{option_or, option_copied, is_some}
use Rattle.std.proofs.lemmas.List.Folds.{find-append}

-- among those that pass a test, the first that passes another passes both
pub find_within : {X : Type 0} (p q : X → Bool) (xs : List X) → find p (filter q xs) ≡ find (λ x. q x && p x) xs
find_within p q [] = refl
find_within {X} p q (x ∷ xs) = by (q x) (p x) refl refl (find_within p q xs)
  where
    by : (a b : Bool) → q x ≡ a → p x ≡ b → find p (filter q xs) ≡ find (λ y. q y && p y) xs →
        find p (filter q (x ∷ xs)) ≡ find (λ y. q y && p y) (x ∷ xs)
    by true true e f rest = rw (e, f) refl
    by true false e f rest = rw (e, f) rest
    by false b e f rest = rw e rest

-- what is left of a list, from its first element on
pub first_left : {X : Type 0} (xs : List X) (i : ℕ) (x : X) → i < length xs → x ≡ get_or xs i x → drop i xs ≡ x ∷ drop (i + 1) xs
first_left xs i x low is = rw (add-one, drop-cons xs i x) (ap (λ y. y ∷ drop (suc i) xs) (sym is))

-- a search over the parts of those that pass a test, one at a time
pub found_here : {X : Type 0} (p q : X → Bool) (f : X → List X) (xs : List X) (i : ℕ) (x : X) → i < length xs → x ≡ get_or xs i x → q x ≡ true →
    find p (flat_map f (filter q (drop i xs))) ≡ option_or (find p (f x)) (find p (flat_map f (filter q (drop (i + 1) xs))))
found_here p q f xs i x low is passes =
    ap (λ ys. find p (flat_map f (filter q ys))) (first_left xs i x low is) ∙
    ap (λ b. find p (flat_map f (if b then x ∷ filter q (drop (i + 1) xs) else filter q (drop (i + 1) xs)))) passes ∙
    find-append p (f x) (flat_map f (filter q (drop (i + 1) xs)))

pub passed_by : {X : Type 0} (p q : X → Bool) (f : X → List X) (xs : List X) (i : ℕ) (x : X) → i < length xs → x ≡ get_or xs i x → q x ≡ false →
    find p (flat_map f (filter q (drop i xs))) ≡ find p (flat_map f (filter q (drop (i + 1) xs)))
passed_by p q f xs i x low is fails =
    ap (λ ys. find p (flat_map f (filter q ys))) (first_left xs i x low is) ∙
    ap (λ b. find p (flat_map f (if b then x ∷ filter q (drop (i + 1) xs) else filter q (drop (i + 1) xs)))) fails

-- the first part's answer counts where it has one, else the other parts'

pub first_answers : {X : Type 0} (r : Option (Bor X)) (a b : Option X) → option_copied r ≡ a → is_some r ≡ true → option_or a b ≡ option_copied r
first_answers None a b same some = absurd (cc)
first_answers (Some x) a b same some = rw (← same) refl

pub others_answer : {X : Type 0} (r : Option (Bor X)) (a b : Option X) → option_copied r ≡ a → is_some r ≡ false → option_or a b ≡ b
others_answer None a b same none = rw (← same) refl
others_answer (Some x) a b same none = absurd (cc)
