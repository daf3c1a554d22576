-- How many of some things are left, and the product of their sizes.
use Rattle.std.proofs.Common.{◌≡◌, ◌<◌, ◌≤◌, ◌+◌, ◌*◌, ◌⊎◌, inl, inr, ℕ, zero, suc, Bool, true, false, if◌then◌else◌, List, [], ◌∷◌, refl, sym, ap, ◌∙◌, subst, arith}
use Rattle.std.proofs.lemmas.Nat.{mul-le}
use Rattle.std.proofs.lemmas.Bool.{cases_Bool}
use Rattle.std.proofs.Math.Nat.{le_refl, mul_comm, mul_assoc}
use Rattle.vtr_base.specs.Lists.{Has}

pub le_trans : (a b c : ℕ) → a ≤ b → b ≤ c → a ≤ c
le_trans a b c p q = omega (arith, p, q)

module _ {V : Type 0} (size : V → ℕ) where
  abbrev pub one_if : Bool → ℕ
  one_if true = 1
  one_if false = 0

  abbrev pub size_if : Bool → V → ℕ
  size_if true v = size v
  size_if false v = 1

  -- how many are left
  abbrev pub count_of : (V → Bool) → List V → ℕ
  count_of left [] = 0
  count_of left (v ∷ vs) = one_if (left v) + count_of left vs

  -- the product of the sizes of those that are left
  abbrev pub product_of : (V → Bool) → List V → ℕ
  product_of left [] = 1
  product_of left (v ∷ vs) = size_if (left v) v * product_of left vs

  abbrev pub AreSome : List V → Type 0
  AreSome vs = (v : V) → Has vs v → 1 ≤ size v

  -- what is left of the one is left of the other
  abbrev pub IsWithin : (V → Bool) → (V → Bool) → Type 0
  IsWithin new old = (v : V) → new v ≡ true → old v ≡ true

  size_some : (b : Bool) (v : V) → 1 ≤ size v → 1 ≤ size_if b v
  size_some true v some = some
  size_some false v some = omega arith

  pub product_some : (left : V → Bool) (vs : List V) → AreSome vs → 1 ≤ product_of left vs
  product_some left [] some = omega arith
  product_some left (v ∷ vs) some =
      mul-le 1 1 (size_if (left v) v) (product_of left vs) (size_some (left v) v (some v (inl refl))) (product_some left vs (λ w has. some w (inr has)))

  one_within : (a b : Bool) → (a ≡ true → b ≡ true) → one_if a ≤ one_if b
  one_within true true is = omega arith
  one_within true false is = let bad : false ≡ true = is refl in cc
  one_within false true is = omega arith
  one_within false false is = omega arith

  size_within : (a b : Bool) (v : V) → 1 ≤ size v → (a ≡ true → b ≡ true) → size_if a v ≤ size_if b v
  size_within true true v some is = le_refl (size v)
  size_within true false v some is = let bad : false ≡ true = is refl in cc
  size_within false true v some is = some
  size_within false false v some is = omega arith

  count_within : (new old : V → Bool) (vs : List V) → IsWithin new old → count_of new vs ≤ count_of old vs
  count_within new old [] is = omega arith
  count_within new old (v ∷ vs) is = omega (arith, one_within (new v) (old v) (is v), count_within new old vs is)

  product_within : (new old : V → Bool) (vs : List V) → AreSome vs → IsWithin new old → product_of new vs ≤ product_of old vs
  product_within new old [] some is = omega arith
  product_within new old (v ∷ vs) some is =
      mul-le (size_if (new v) v) (product_of new vs) (size_if (old v) v) (product_of old vs)
      (size_within (new v) (old v) v (some v (inl refl)) (is v)) (product_within new old vs (λ w has. some w (inr has)) is)

  -- where one more is gone, fewer are left
  pub fewer : (new old : V → Bool) (vs : List V) (v : V) → IsWithin new old → Has vs v → old v ≡ true → new v ≡ false → count_of new vs + 1 ≤ count_of old vs
  fewer new old [] v is has was gone = absurd has
  fewer new old (w ∷ vs) v is (inl same) was gone =
      let a : one_if (new w) ≡ 0 = ap one_if (ap new (sym same) ∙ gone) in
      let b : one_if (old w) ≡ 1 = ap one_if (ap old (sym same) ∙ was) in
      omega (arith, a, b, count_within new old vs is)
  fewer new old (w ∷ vs) v is (inr has) was gone = omega (arith, one_within (new w) (old w) (is w), fewer new old vs v is has was gone)

  -- and the product is smaller by its size
  pub smaller : (new old : V → Bool) (vs : List V) (v : V) → AreSome vs → IsWithin new old → Has vs v → old v ≡ true → new v ≡ false →
      product_of new vs * size v ≤ product_of old vs
  smaller new old [] v some is has was gone = absurd has
  smaller new old (w ∷ vs) v some is (inl same) was gone =
      let a : size_if (new w) w ≡ 1 = ap (λ b. size_if b w) (ap new (sym same) ∙ gone) in
      let b : size_if (old w) w ≡ size v = ap (λ b. size_if b w) (ap old (sym same) ∙ was) ∙ ap size (sym same) in
      let rest = product_within new old vs (λ x has. some x (inr has)) is in
      subst (λ x. (x * product_of new vs) * size v ≤ size_if (old w) w * product_of old vs) (sym a)
      (subst (λ x. (1 * product_of new vs) * size v ≤ x * product_of old vs) (sym b) (turned (product_of new vs) (product_of old vs) (size v) rest))
    where
      turned : (p q s : ℕ) → p ≤ q → (1 * p) * s ≤ s * q
      turned p q s le =
          let one : 1 * p ≡ p = omega arith in
          subst (λ x. x * s ≤ s * q) (sym one) (subst (λ x. p * s ≤ x) (mul_comm q s) (mul-le p s q s le (le_refl s)))
  smaller new old (w ∷ vs) v some is (inr has) was gone =
      let rest = smaller new old vs v (λ x h. some x (inr h)) is has was gone in
      subst (λ x. x ≤ size_if (old w) w * product_of old vs) (sym (mul_assoc (size_if (new w) w) (product_of new vs) (size v)))
      (mul-le (size_if (new w) w) (product_of new vs * size v) (size_if (old w) w) (product_of old vs) (size_within (new w) (old w) w (some w (inl refl)) (is w)) rest)
