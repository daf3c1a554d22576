-- A list in which nothing stands twice is no longer than one that has all its elements.
use Rattle.std.proofs.Common.{◌≡◌, ◌≤◌, ◌⊎◌, ℕ, suc, List, [], ◌∷◌, length, refl, sym, ap, ◌∙◌, subst, inl, inr, arith}
use Rattle.vtr_base.specs.Lists.{Has}
use Rattle.arch_types.proofs.Once.{Once}
use Rattle.pb_expand.specs.Making.{AreOnce}
use Rattle.pb_expand.proofs.Lists.{at_has}

-- the list without that element
without : {X : Type 0} (ys : List X) (x : X) → Has ys x → List X
without [] x has = absurd has
without (y ∷ ys) x (inl is) = ys
without (y ∷ ys) x (inr has) = y ∷ without ys x has

length-without : {X : Type 0} (ys : List X) (x : X) (has : Has ys x) → length ys ≡ suc (length (without ys x has))
unfolding without
length-without [] x has = absurd has
length-without (y ∷ ys) x (inl is) = refl
length-without (y ∷ ys) x (inr has) = ap suc (length-without ys x has)

without_has : {X : Type 0} (ys : List X) (x : X) (has : Has ys x) (z : X) → Has ys z → (z ≡ x) ⊎ Has (without ys x has) z
unfolding without
without_has [] x has z there = absurd has
without_has (y ∷ ys) x (inl is) z (inl same) = inl (same ∙ sym is)
without_has (y ∷ ys) x (inl is) z (inr there) = inr there
without_has (y ∷ ys) x (inr has) z (inl same) = inr (inl same)
without_has (y ∷ ys) x (inr has) z (inr there) = elim (without_has ys x has z there) [ inl same ↦ inl same | inr left ↦ inr (inr left) ]

pub few_of : {X : Type 0} (xs ys : List X) → Once xs → ((x : X) → Has xs x → Has ys x) → length xs ≤ length ys
few_of [] ys once all = omega arith
few_of (x ∷ xs) ys once all =
    let here = all x (inl refl) in
    let rest = few_of xs (without ys x here) once.1 (λ z has. by z has (without_has ys x here z (all z (inr has)))) in
    omega (arith, rest, length-without ys x here)
  where
    by : (z : _) → Has xs z → (z ≡ x) ⊎ Has (without ys x (all x (inl refl))) z → Has (without ys x (all x (inl refl))) z
    by z has (inl same) = absurd (once.0 (subst (Has xs) same has))
    by z has (inr there) = there

pub once_of : {X : Type 0} (xs : List X) → AreOnce xs → Once xs
once_of [] once = tt
once_of (x ∷ xs) once = (
  λ has. let place = at_has xs x has in absurd (apart place.0 (once 0 (suc place.0) x refl place.1)),
  once_of xs (λ i j y at_i at_j. same i j (once (suc i) (suc j) y at_i at_j)),
)
  where
    apart : (k : ℕ) → 0 ≡ suc k → ⊥
    apart k e = omega arith

    same : (i j : ℕ) → suc i ≡ suc j → i ≡ j
    same i j e = omega arith
