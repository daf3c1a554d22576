-- Sizes of parts, put together.
use Rattle.std.proofs.Common.{◌≡◌, ◌≤◌, ◌<◌, ◌+◌, ◌==◌, ◌^◌, ◌⊎◌, ◌↔◌, inl, inr, ℕ, Bool, true, false, if◌then◌else◌, List, [], ◌∷◌, ◌++◌, length, take, get_or, refl, sym, ap, ◌∙◌, subst, arith}
use Rattle.std.proofs.lemmas.Bool.Decides.{nat_tests}
use Rattle.std.proofs.lemmas.List.{take_more, take_all}
use Rattle.vtr_base.specs.Lists.{Has}
use Rattle.list_laws.proofs.Members.{has_left, has_last, has_pushed}
use Rattle.lut_widths.specs.declared.sizes.LutSizes.{LutSizes}
use Rattle.lut_widths.specs.declared.sizes.LutSizes.TheVariants.{NoLut, Single, Several}
use Rattle.lut_widths.specs.Sizes.{AreSizes, both, AtSome, SizesMisfit}
use Rattle.lut_widths.proofs.Deciding.{same_or_not, same_power}

pub sizes_alike : (P Q : ℕ → Type 0) → ((k : ℕ) → P k ↔ Q k) → (s : LutSizes) → AreSizes P s → AreSizes Q s
sizes_alike P Q same NoLut a = λ k q. a k ((same k).1 q)
sizes_alike P Q same (Single k) a = ((same k).0 a.0, λ j q. a.1 j ((same j).1 q))
sizes_alike P Q same (Several k j) a = ((same k).0 a.0, (same j).0 a.1, a.2)

abbrev Either : (P Q : ℕ → Type 0) → ℕ → Type 0
Either P Q k = P k ⊎ Q k

pub sizes_both : (P Q : ℕ → Type 0) (a b : LutSizes) → AreSizes P a → AreSizes Q b → AreSizes (λ k. P k ⊎ Q k) (both a b)
sizes_both P Q NoLut b none q = sizes_alike Q (Either P Q) (λ k. (λ y. inr y, back k)) b q
  where
    back : (k : ℕ) → Either P Q k → Q k
    back k (inl x) = absurd (none k x)
    back k (inr y) = y
sizes_both P Q (Several k j) b p q = (inl p.0, inl p.1, p.2)
sizes_both P Q (Single k) NoLut p none = sizes_alike P (Either P Q) (λ j. (λ x. inl x, back j)) (Single k) p
  where
    back : (j : ℕ) → Either P Q j → P j
    back j (inl x) = x
    back j (inr y) = absurd (none j y)
sizes_both P Q (Single k) (Several i j) p q = (inr q.0, inr q.1, q.2)
sizes_both P Q (Single k) (Single j) p q = by (k == j) refl
  where
    test : (m n : ℕ) (t : Bool) → (m == n) ≡ t → ((t ≡ true) × (m ≡ n)) ⊎ ((t ≡ false) × (m ≡ n → ⊥))
    test m n true e = inl (refl, grind (arith, nat_tests))
    test m n false e = inr (refl, λ same. grind (arith, nat_tests))

    only : k ≡ j → (i : ℕ) → Either P Q i → i ≡ k
    only same i (inl x) = p.1 i x
    only same i (inr y) = q.1 i y ∙ sym same

    at : (t : Bool) → ((t ≡ true) × (k ≡ j)) ⊎ ((t ≡ false) × (k ≡ j → ⊥)) → AreSizes (Either P Q) (if t then Single k else Several k j)
    at true (inl is) = (inl p.0, only is.1)
    at true (inr is) = absurd (cc)
    at false (inl is) = absurd (cc)
    at false (inr is) = (inl p.0, inr q.0, is.1)

    by : (t : Bool) → (k == j) ≡ t → AreSizes (Either P Q) (if t then Single k else Several k j)
    by t e = at t (test k j t e)

-- items of a list, one by one

pub at_none : {X : Type 0} (Holds : X → ℕ → Type 0) → AreSizes (AtSome Holds []) NoLut
at_none Holds k some = some.among

pub sizes_more : {X : Type 0} (Holds : X → ℕ → Type 0) (xs : List X) (n : ℕ) (x : X) (s t : LutSizes) → n < length xs → x ≡ get_or xs n x → AreSizes (AtSome Holds (take n xs)) s →
    AreSizes (Holds x) t → AreSizes (AtSome Holds (take (n + 1) xs)) (both s t)
sizes_more {X} Holds xs n x s t within is old new =
    let longer : take (n + 1) xs ≡ take n xs ++ x ∷ [] = take_more xs n x within ∙ ap (λ (y : X). take n xs ++ y ∷ []) (sym is) in
    subst (λ (l : List X). AreSizes (AtSome Holds l) (both s t)) (sym longer)
    (sizes_alike (λ k. AtSome Holds (take n xs) k ⊎ Holds x k) (AtSome Holds (take n xs ++ x ∷ [])) (λ k. (forth k, λ some. back k some (has_pushed (take n xs) x some.item some.among))) (both s t)
    (sizes_both (AtSome Holds (take n xs)) (Holds x) s t old new))
  where
    forth : (k : ℕ) → AtSome Holds (take n xs) k ⊎ Holds x k → AtSome Holds (take n xs ++ x ∷ []) k
    forth k (inl some) = record { item = some.item; among = has_left (take n xs) (x ∷ []) some.item some.among; holds = some.holds }
    forth k (inr here) = record { item = x; among = has_last (take n xs) x; holds = here }

    back : (k : ℕ) (some : AtSome Holds (take n xs ++ x ∷ []) k) → Has (take n xs) some.item ⊎ (some.item ≡ x) → AtSome Holds (take n xs) k ⊎ Holds x k
    back k some (inl front) = inl (record { item = some.item; among = front; holds = some.holds })
    back k some (inr last) = inr (subst (λ (y : X). Holds y k) last some.holds)

pub sizes_all : {X : Type 0} (Holds : X → ℕ → Type 0) (xs : List X) (n : ℕ) (s : LutSizes) → length xs ≤ n → AreSizes (AtSome Holds (take n xs)) s → AreSizes (AtSome Holds xs) s
sizes_all {X} Holds xs n s end old = subst (λ (l : List X). AreSizes (AtSome Holds l) s) (take_all n xs end) old

-- widths

pub misfit_of : (P : ℕ → Type 0) (s : LutSizes) (width : ℕ) → AreSizes P s → SizesMisfit s width ↔ ((k : ℕ) × P k × (width ≡ 2 ^ k → ⊥))
misfit_of P NoLut width a = (λ misses. absurd misses, λ some. a some.0 some.1)
misfit_of P (Single k) width a = (λ misses. (k, a.0, misses), λ some fits. some.2 (fits ∙ ap (λ (n : ℕ). 2 ^ n) (sym (a.1 some.0 some.1))))
misfit_of P (Several k j) width a = (λ misses. by (same_or_not width (2 ^ k)), λ some. tt)
  where
    by : (width ≡ 2 ^ k) ⊎ (width ≡ 2 ^ k → ⊥) → (i : ℕ) × P i × (width ≡ 2 ^ i → ⊥)
    by (inl fits) = (j, a.1, λ also. a.2 (same_power width k j fits also))
    by (inr misses) = (k, a.0, misses)
