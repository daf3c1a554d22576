-- A list in which nothing stands twice is no longer than one that has all its elements.
use Rattle.std.proofs.Common.{◌≡◌, ◌≤◌, ◌⊎◌, suc, List, [], ◌∷◌, length, refl, sym, ap, ◌∙◌, subst, inl, inr, arith}
use Rattle.vtr_base.specs.Lists.{Has}
use Rattle.list_laws.specs.Orders.{Once, HaveSame}

-- the list without that element
without : {X : Type 0} (ys : List X) (x : X) → Has ys x → List X
without [] x has = absurd has
without (y ∷ ys) x (inl is) = ys
without (y ∷ ys) x (inr has) = y ∷ without ys x has

length-without : {X : Type 0} (ys : List X) (x : X) (has : Has ys x) → length ys ≡ suc (length (without ys x has))
unfolding without
length-without [] x has = absurd has
length-without (y ∷ ys) x (inl is) = refl
length-without (y ∷ ys) x (inr has) = ap suc (length-without ys x has)

without_has : {X : Type 0} (ys : List X) (x : X) (has : Has ys x) (z : X) → Has ys z → (z ≡ x) ⊎ Has (without ys x has) z
unfolding without
without_has [] x has z there = absurd has
without_has (y ∷ ys) x (inl is) z (inl same) = inl (same ∙ sym is)
without_has (y ∷ ys) x (inl is) z (inr there) = inr there
without_has (y ∷ ys) x (inr has) z (inl same) = inr (inl same)
without_has (y ∷ ys) x (inr has) z (inr there) = elim (without_has ys x has z there) [ inl same ↦ inl same | inr left ↦ inr (inr left) ]

pub no_longer : {X : Type 0} (xs ys : List X) → Once xs → ((x : X) → Has xs x → Has ys x) → length xs ≤ length ys
no_longer [] ys once all = omega arith
no_longer {X} (x ∷ xs) ys once all =
    let here = all x (inl refl) in
    let rest = no_longer xs (without ys x here) once.1 (λ z has. by z has (without_has ys x here z (all z (inr has)))) in
    omega (arith, rest, length-without ys x here)
  where
    by : (z : X) → Has xs z → (z ≡ x) ⊎ Has (without ys x (all x (inl refl))) z → Has (without ys x (all x (inl refl))) z
    by z has (inl same) = absurd (once.0 (subst (Has xs) same has))
    by z has (inr there) = there

pub same_length : {X : Type 0} (xs ys : List X) → Once xs → Once ys → HaveSame xs ys → length xs ≡ length ys
same_length xs ys once_xs once_ys same = omega (arith, no_longer xs ys once_xs same.forth, no_longer ys xs once_ys same.back)
