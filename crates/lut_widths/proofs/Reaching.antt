-- How far LUTs reach, with more of them.
use Rattle.std.proofs.Common.{◌≡◌, ◌≤◌, ◌<◌, ◌==◌, ◌^◌, ◌⊎◌, ◌↔◌, inl, inr, ℕ, Bool, true, false, if◌then◌else◌, max, nat_le, refl, sym, ap, ◌∙◌, subst, arith}
use Rattle.std.proofs.lemmas.Bool.Decides.{nat_tests}
use Rattle.lut_widths.specs.declared.sizes.LutSizes.{LutSizes}
use Rattle.lut_widths.specs.declared.sizes.LutSizes.TheVariants.{NoLut, Single, Several}
use Rattle.lut_widths.specs.declared.reach.Reach.{Reach}
use Rattle.lut_widths.specs.Sizes.{AreSizes}
use Rattle.lut_widths.specs.Reaches.{IsReach, reach_with, reach_with_sizes, ReachMisfits}
use Rattle.lut_widths.proofs.Deciding.{same_or_not, same_power}

abbrev pub reach_of : ℕ → ℕ → ℕ → Reach
reach_of inputs most other = record { inputs = inputs; most = most; other = other }

pub reach_alike : (S T : ℕ → ℕ → Type 0) (r : Reach) → ((k i : ℕ) → S k i ↔ T k i) → IsReach S r → IsReach T r
reach_alike S T r same old = record {
  own = λ i. (λ t. (old.own i).0 ((same r.inputs i).1 t), λ less. (same r.inputs i).0 ((old.own i).1 less));
  inside = λ k i t ne. old.inside k i ((same k i).1 t) ne;
  other = λ i less. let o = old.other i less in (o.0, o.1, (same o.0 i).0 o.2);
  order = old.order;
}

pub reach_nowhere : (S : ℕ → ℕ → Type 0) → ((k i : ℕ) → S k i → ⊥) → IsReach S (reach_of 0 0 0)
reach_nowhere S none = record {
  own = λ i. (λ s. absurd (none 0 i s), λ less. absurd (omega (arith, less)));
  inside = λ k i s ne. absurd (none k i s);
  other = λ i less. absurd (omega (arith, less));
  order = omega arith;
}

max_cases : (m n : ℕ) → ((m ≤ n) × (max m n ≡ n)) ⊎ ((n ≤ m) × (max m n ≡ m))
max_cases m n = grind (arith, nat_tests)

below_max : (i m n : ℕ) → i < max m n → (i < m) ⊎ (i < n)
below_max i m n less = elim (max_cases m n) [ inl right ↦ inr (omega (arith, right.1)) | inr left ↦ inl (omega (arith, left.1)) ]

left_max : (m n : ℕ) → m ≤ max m n
left_max m n = elim (max_cases m n) [ inl right ↦ omega (arith, right.0, right.1) | inr left ↦ omega (arith, left.1) ]

right_max : (m n : ℕ) → n ≤ max m n
right_max m n = elim (max_cases m n) [ inl right ↦ omega (arith, right.1) | inr left ↦ omega (arith, left.0, left.1) ]

eq_test : (m n : ℕ) (t : Bool) → (m == n) ≡ t → ((t ≡ true) × (m ≡ n)) ⊎ ((t ≡ false) × (m ≡ n → ⊥))
eq_test m n true e = inl (refl, grind (arith, nat_tests))
eq_test m n false e = inr (refl, λ same. grind (arith, nat_tests))

le_test : (m n : ℕ) (t : Bool) → nat_le m n ≡ t → ((t ≡ true) × (m ≤ n)) ⊎ ((t ≡ false) × (n < m))
le_test m n true e = inl (refl, grind (arith, nat_tests))
le_test m n false e = inr (refl, grind (arith, nat_tests))

-- LUTs of k inputs in all instances below n
abbrev More : (S : ℕ → ℕ → Type 0) → ℕ → ℕ → ℕ → ℕ → Type 0
More S k n j i = S j i ⊎ ((j ≡ k) × (i < n))

same_size : (S : ℕ → ℕ → Type 0) (r : Reach) (k n : ℕ) → IsReach S r → k ≡ r.inputs → IsReach (More S k n) (reach_of r.inputs (max r.most n) r.other)
same_size S r k n old same = record {
  own = λ i. (forth i, λ less. back i (below_max i r.most n less));
  inside = λ j i m ne. inside j i ne m;
  other = λ i less. let o = old.other i less in (o.0, o.1, inl o.2);
  order = let h = left_max r.most n in let o = old.order in omega (arith, h, o);
}
  where
    forth : (i : ℕ) → More S k n r.inputs i → i < max r.most n
    forth i (inl s) = let h = left_max r.most n in let l = (old.own i).0 s in omega (arith, h, l)
    forth i (inr new) = let h = right_max r.most n in omega (arith, h, new.1)

    back : (i : ℕ) → (i < r.most) ⊎ (i < n) → More S k n r.inputs i
    back i (inl less) = inl ((old.own i).1 less)
    back i (inr less) = inr (sym same, less)

    inside : (j i : ℕ) → (j ≡ r.inputs → ⊥) → More S k n j i → i < r.other
    inside j i ne (inl s) = old.inside j i s ne
    inside j i ne (inr new) = absurd (ne (new.0 ∙ same))

fewer : (S : ℕ → ℕ → Type 0) (r : Reach) (k n : ℕ) → IsReach S r → (k ≡ r.inputs → ⊥) → n ≤ r.most → IsReach (More S k n) (reach_of r.inputs r.most (max r.other n))
fewer S r k n old other few = record {
  own = λ i. (forth i, λ less. inl ((old.own i).1 less));
  inside = λ j i m ne. inside j i ne m;
  other = λ i less. back i (below_max i r.other n less);
  order = elim (max_cases r.other n) [ inl right ↦ omega (arith, right.1, few) | inr left ↦ let o = old.order in omega (arith, left.1, o) ];
}
  where
    forth : (i : ℕ) → More S k n r.inputs i → i < r.most
    forth i (inl s) = (old.own i).0 s
    forth i (inr new) = absurd (other (sym new.0))

    inside : (j i : ℕ) → (j ≡ r.inputs → ⊥) → More S k n j i → i < max r.other n
    inside j i ne (inl s) = let h = left_max r.other n in let l = old.inside j i s ne in omega (arith, h, l)
    inside j i ne (inr new) = let h = right_max r.other n in omega (arith, h, new.1)

    back : (i : ℕ) → (i < r.other) ⊎ (i < n) → (j : ℕ) × (j ≡ r.inputs → ⊥) × More S k n j i
    back i (inl less) = let o = old.other i less in (o.0, o.1, inl o.2)
    back i (inr less) = (k, other, inr (refl, less))

further : (S : ℕ → ℕ → Type 0) (r : Reach) (k n : ℕ) → IsReach S r → (k ≡ r.inputs → ⊥) → r.most < n → IsReach (More S k n) (reach_of k n r.most)
further S r k n old other more = record {
  own = λ i. (forth i, λ less. inr (refl, less));
  inside = λ j i m ne. inside j i ne m;
  other = λ i less. (r.inputs, λ same. other (sym same), inl ((old.own i).1 less));
  order = omega (arith, more);
}
  where
    forth : (i : ℕ) → More S k n k i → i < n
    forth i (inl s) = let l = old.inside k i s other in let o = old.order in omega (arith, l, o, more)
    forth i (inr new) = new.1

    old_one : (j i : ℕ) → S j i → (j ≡ r.inputs) ⊎ (j ≡ r.inputs → ⊥) → i < r.most
    old_one j i s (inl same) = (old.own i).0 (subst (λ (n : ℕ). S n i) same s)
    old_one j i s (inr ne) = let l = old.inside j i s ne in let o = old.order in omega (arith, l, o)

    inside : (j i : ℕ) → (j ≡ k → ⊥) → More S k n j i → i < r.most
    inside j i ne (inl s) = old_one j i s (same_or_not j r.inputs)
    inside j i ne (inr new) = absurd (ne new.0)

pub reach_more : (S : ℕ → ℕ → Type 0) (r : Reach) (k n : ℕ) → IsReach S r → IsReach (λ j i. S j i ⊎ ((j ≡ k) × (i < n))) (reach_with r k n)
reach_more S r k n old = by (k == r.inputs) (eq_test k r.inputs (k == r.inputs) refl)
  where
    rest : (k ≡ r.inputs → ⊥) → (t : Bool) → ((t ≡ true) × (n ≤ r.most)) ⊎ ((t ≡ false) × (r.most < n)) →
        IsReach (More S k n) (if t then reach_of r.inputs r.most (max r.other n) else reach_of k n r.most)
    rest other true (inl few) = fewer S r k n old other few.1
    rest other true (inr more) = absurd (cc)
    rest other false (inl few) = absurd (cc)
    rest other false (inr more) = further S r k n old other more.1

    by : (t : Bool) → ((t ≡ true) × (k ≡ r.inputs)) ⊎ ((t ≡ false) × (k ≡ r.inputs → ⊥)) →
        IsReach (More S k n) (if t then reach_of r.inputs (max r.most n) r.other else if nat_le n r.most then reach_of r.inputs r.most (max r.other n) else reach_of k n r.most)
    by true (inl same) = same_size S r k n old same.1
    by true (inr other) = absurd (cc)
    by false (inl same) = absurd (cc)
    by false (inr other) = rest other.1 (nat_le n r.most) (le_test n r.most (nat_le n r.most) refl)

-- LUTs of these sizes in all instances below n
abbrev Sized : (S : ℕ → ℕ → Type 0) (P : ℕ → Type 0) → ℕ → ℕ → ℕ → Type 0
Sized S P n j i = S j i ⊎ ((i < n) × P j)

two_sizes : (S : ℕ → ℕ → Type 0) (P : ℕ → Type 0) (r : Reach) (k j n : ℕ) → P k → P j → (k ≡ j → ⊥) → IsReach (More (More S k n) j n) r → IsReach (Sized S P n) r
two_sizes S P r k j n one two apart old = record {
  own = λ i. (forth i, λ less. on r.inputs i ((old.own i).1 less));
  inside = λ m i sized ne. inside m i ne sized;
  other = λ i less. let o = old.other i less in (o.0, o.1, on o.0 i o.2);
  order = old.order;
}
  where
    on : (m i : ℕ) → More (More S k n) j n m i → Sized S P n m i
    on m i (inl (inl s)) = inl s
    on m i (inl (inr new)) = inr (new.1, subst P (sym new.0) one)
    on m i (inr new) = inr (new.1, subst P (sym new.0) two)

    below : (i : ℕ) → i < n → (k ≡ r.inputs) ⊎ (k ≡ r.inputs → ⊥) → i < r.other
    below i less (inl same) = old.inside j i (inr (refl, less)) (λ also. apart (same ∙ sym also))
    below i less (inr ne) = old.inside k i (inl (inr (refl, less))) ne

    within : (i : ℕ) → i < n → i < r.most
    within i less = let l = below i less (same_or_not k r.inputs) in let o = old.order in omega (arith, l, o)

    forth : (i : ℕ) → Sized S P n r.inputs i → i < r.most
    forth i (inl s) = (old.own i).0 (inl (inl s))
    forth i (inr new) = within i new.0

    inside : (m i : ℕ) → (m ≡ r.inputs → ⊥) → Sized S P n m i → i < r.other
    inside m i ne (inl s) = old.inside m i (inl (inl s)) ne
    inside m i ne (inr new) = below i new.0 (same_or_not k r.inputs)

pub reach_more_sizes : (S : ℕ → ℕ → Type 0) (P : ℕ → Type 0) (r : Reach) (s : LutSizes) (n : ℕ) → IsReach S r → AreSizes P s →
    IsReach (λ j i. S j i ⊎ ((i < n) × P j)) (reach_with_sizes r s n)
reach_more_sizes S P r NoLut n old none = reach_alike S (Sized S P n) r (λ j i. (λ x. inl x, back j i)) old
  where
    back : (j i : ℕ) → Sized S P n j i → S j i
    back j i (inl x) = x
    back j i (inr new) = absurd (none j new.1)
reach_more_sizes S P r (Single k) n old sizes = reach_alike (More S k n) (Sized S P n) (reach_with r k n) (λ j i. (forth j i, back j i)) (reach_more S r k n old)
  where
    forth : (j i : ℕ) → More S k n j i → Sized S P n j i
    forth j i (inl x) = inl x
    forth j i (inr new) = inr (new.1, subst P (sym new.0) sizes.0)

    back : (j i : ℕ) → Sized S P n j i → More S k n j i
    back j i (inl x) = inl x
    back j i (inr new) = inr (sizes.1 j new.1, new.0)
reach_more_sizes S P r (Several k j) n old sizes =
    two_sizes S P (reach_with (reach_with r k n) j n) k j n sizes.0 sizes.1 sizes.2 (reach_more (More S k n) (reach_with r k n) j n (reach_more S r k n old))

-- widths

pub reach_misfit_of : (S : ℕ → ℕ → Type 0) (r : Reach) (i w : ℕ) → IsReach S r → ReachMisfits r i w ↔ ((k : ℕ) × S k i × (w ≡ 2 ^ k → ⊥))
reach_misfit_of S r i w old = (forth, λ some. back some (same_or_not w (2 ^ r.inputs)))
  where
    forth : ReachMisfits r i w → (k : ℕ) × S k i × (w ≡ 2 ^ k → ⊥)
    forth (inl fits) = let o = old.other i fits.1 in (o.0, o.2, λ also. o.1 (same_power w o.0 r.inputs also fits.0))
    forth (inr misses) = (r.inputs, (old.own i).1 misses.1, misses.0)

    under : (some : (k : ℕ) × S k i × (w ≡ 2 ^ k → ⊥)) → (some.0 ≡ r.inputs) ⊎ (some.0 ≡ r.inputs → ⊥) → i < r.most
    under some (inl same) = (old.own i).0 (subst (λ (n : ℕ). S n i) same some.1)
    under some (inr ne) = let l = old.inside some.0 i some.1 ne in let o = old.order in omega (arith, l, o)

    back : (some : (k : ℕ) × S k i × (w ≡ 2 ^ k → ⊥)) → (w ≡ 2 ^ r.inputs) ⊎ (w ≡ 2 ^ r.inputs → ⊥) → ReachMisfits r i w
    back some (inl fits) = inl (fits, old.inside some.0 i some.1 (λ same. some.2 (fits ∙ ap (λ (n : ℕ). 2 ^ n) (sym same))))
    back some (inr misses) = inr (misses, under some (same_or_not some.0 r.inputs))
