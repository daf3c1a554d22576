-- Counting in lists of numbers: lists whose members differ, and how long they can be.
use Rattle.std.proofs.Common.{◌≡◌, ◌≢◌, ◌<◌, ◌≤◌, ◌-◌, ◌⊎◌, inl, inr, ℕ, List, [], ◌∷◌, ◌++◌, true, false, length, get_or, eqb, refl, sym, ◌∙◌, subst, arith, length-append}
use Rattle.std.specs.Prelude.{Contains}
use Rattle.std.specs.Cmp.{nat_eq_equiv}
use Rattle.std.specs.List.{IsDistinct}
use Rattle.std.specs.Set.{is_member}
use Rattle.std.proofs.lemmas.Bool.{cases_lt, cases_Bool}
use Rattle.std.proofs.lemmas.Bool.Decides.{Decides-eqb, eqb_tells}
use Rattle.std.proofs.lemmas.List.{get_or_append_left, get_or-append_right, get_or_default}
use Rattle.std.proofs.lemmas.Map.Keys.{IsDistinct-from_apart}
use Rattle.std.proofs.lemmas.Map.Made.{length-le_from_is_member, is_member-Decides}
use Rattle.std.proofs.lemmas.Map.Steps.{length-le_from_distinct_below}
use Rattle.matching.specs.Bipartite.{AreApart}

distinct : (xs : List ℕ) → AreApart xs → IsDistinct eqb xs
distinct xs apart = IsDistinct-from_apart eqb xs (λ i j d less inside. differ i j d less inside (eqb_tells (get_or xs i d) (get_or xs j d)))
  where
    differ : (i j d : ℕ) → i < j → j < length xs →
        ((eqb (get_or xs i d) (get_or xs j d) ≡ true) × (get_or xs i d ≡ get_or xs j d)) ⊎
        ((eqb (get_or xs i d) (get_or xs j d) ≡ false) × (get_or xs i d ≢ get_or xs j d)) → eqb (get_or xs i d) (get_or xs j d) ≡ false
    differ i j d less inside (inr apart') = apart'.0
    differ i j d less inside (inl same) =
        let i_in : i < length xs = omega arith in
        absurd (apart i j less inside (get_or_default xs i 0 d i_in ∙ same.1 ∙ get_or_default xs j d 0 inside))

-- a list contains what stands at a place of it
pub contains_at : (xs : List ℕ) (k : ℕ) → k < length xs → Contains xs (get_or xs k 0)
contains_at xs k inside = (k, inside, get_or_default xs k (get_or xs k 0) 0 inside)

-- the place of what a list contains
pub place_in : (xs : List ℕ) (x : ℕ) → Contains xs x → (k : ℕ) × (k < length xs) × (get_or xs k 0 ≡ x)
place_in xs x (k, inside, is) = (k, inside, get_or_default xs k 0 x inside ∙ is)

-- numbers that differ and stand in a list are no more than its members
pub no_more_than : (xs ys : List ℕ) → AreApart xs → ((k : ℕ) → k < length xs → Contains ys (get_or xs k 0)) → length xs ≤ length ys
no_more_than xs ys apart inside =
    length-le_from_is_member nat_eq_equiv xs ys (distinct xs apart)
    (λ q h. (is_member-Decides Decides-eqb ys q).1 (let at = place_in xs q ((is_member-Decides Decides-eqb xs q).0 h) in subst (Contains ys) at.2 (inside at.0 at.1)))

-- numbers below n that differ are at most n
pub few_below : (n : ℕ) (xs : List ℕ) → AreApart xs → ((k : ℕ) → k < length xs → get_or xs k 0 < n) → length xs ≤ n
few_below n xs apart below =
    length-le_from_distinct_below xs n (distinct xs apart)
    (λ q h. let at = place_in xs q ((is_member-Decides Decides-eqb xs q).0 h) in let P : ℕ → Type 0 = λ m. m < n in subst P at.2 (below at.0 at.1))

-- a number stands in a list or it doesn't
pub contains_or_not : (xs : List ℕ) (x : ℕ) → Contains xs x ⊎ (Contains xs x → ⊥)
contains_or_not xs x =
    let decides = is_member-Decides Decides-eqb xs x in
    elim (cases_Bool (is_member eqb xs x)) [
      | inl yes' ↦ inl (decides.0 yes')
      | inr no' ↦ inr (λ h. absurd (let bad : ⊥ = cc (decides.1 h, no') in bad))
    ]

-- two lists whose members differ, with no member in common, one behind the other
pub apart_append : (xs ys : List ℕ) → AreApart xs → AreApart ys → ((i j : ℕ) → i < length xs → j < length ys → get_or xs i 0 ≢ get_or ys j 0) → AreApart (xs ++ ys)
apart_append xs ys apart_xs apart_ys none i j less inside =
    elim (cases_lt j (length xs)) [
      | inl left ↦ let i_left : i < length xs = omega arith in λ same. apart_xs i j less left (sym (get_or_append_left xs ys 0 i i_left) ∙ same ∙ get_or_append_left xs ys 0 j left)
      | inr right ↦
          let j_in : j - length xs < length ys = omega (arith, length-append xs ys) in
          elim (cases_lt i (length xs)) [
            | inl i_left ↦ λ same. none i (j - length xs) i_left j_in
                (sym (get_or_append_left xs ys 0 i i_left) ∙ same ∙ get_or-append_right xs ys (length xs) j 0 refl right)
            | inr i_right ↦ λ same. apart_ys (i - length xs) (j - length xs) (omega arith) j_in
                (sym (get_or-append_right xs ys (length xs) i 0 refl i_right) ∙ same ∙ get_or-append_right xs ys (length xs) j 0 refl right)
          ]
    ]

-- one more number that no member is equal to
pub apart_push : (xs : List ℕ) (y : ℕ) → AreApart xs → ((k : ℕ) → k < length xs → get_or xs k 0 ≢ y) → AreApart (xs ++ y ∷ [])
apart_push xs y apart none = apart_append xs (y ∷ []) apart (λ i j less inside. absurd (omega arith)) (λ i j in_xs in_y same. none i in_xs (at_only i j in_y same))
  where
    at_only : (i j : ℕ) → j < length (y ∷ []) → get_or xs i 0 ≡ get_or (y ∷ []) j 0 → get_or xs i 0 ≡ y
    at_only i j in_y same = let first : j ≡ 0 = omega arith in subst (λ n. get_or xs i 0 ≡ get_or (y ∷ []) n 0) first same
