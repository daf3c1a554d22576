-- The first place of a list at which something fails, or the least number.
use Rattle.std.proofs.Common.{◌≡◌, ◌<◌, ◌≤◌, ◌⊎◌, ℕ, zero, suc, List, [], ◌∷◌, Some, slice_get, refl, sym, subst, inl, inr, arith}
use Rattle.vtr_base.specs.Lists.{Has}
use Rattle.std.proofs.lemmas.Bool.{cases_eq, cases_lt}

-- the first element that lacks it, and those before, which have it
pub record FirstWithout {X : Type 0} (P : X → Type 0) (xs : List X) : Type 0 where
  pub place : ℕ
  pub item : X
  pub at : slice_get xs place ≡ Some item
  pub lacks : P item → ⊥
  pub before : (k : ℕ) (x : X) → k < place → slice_get xs k ≡ Some x → P x

-- where it is decided for each, each element has it, or there is a first that lacks it
pub first_without : {X : Type 0} (P : X → Type 0) → ((x : X) → P x ⊎ (P x → ⊥)) → (xs : List X) → ((x : X) → Has xs x → P x) ⊎ FirstWithout P xs
first_without P decide [] = inl (λ x has. absurd has)
first_without {X} P decide (y ∷ ys) = by (decide y) (first_without P decide ys)
  where
    all : P y → ((x : X) → Has ys x → P x) → (x : X) → Has (y ∷ ys) x → P x
    all here rest x (inl is) = subst P (sym is) here
    all here rest x (inr has) = rest x has

    before : P y → (f : FirstWithout P ys) → (k : ℕ) (x : X) → k < suc f.place → slice_get (y ∷ ys) k ≡ Some x → P x
    before here f zero x low at = let is : y ≡ x = cc in subst P is here
    before here f (suc k) x low at = f.before k x (omega arith) at

    by : P y ⊎ (P y → ⊥) → ((x : X) → Has ys x → P x) ⊎ FirstWithout P ys → ((x : X) → Has (y ∷ ys) x → P x) ⊎ FirstWithout P (y ∷ ys)
    by (inr fails) rest = inr (record { place = 0; item = y; at = refl; lacks = fails; before = λ k x low at. absurd (omega arith) })
    by (inl here) (inl rest) = inl (all here rest)
    by (inl here) (inr f) = inr (record { place = suc f.place; item = f.item; at = f.at; lacks = f.lacks; before = before here f })

-- there is at most one first
pub one_first : {X : Type 0} (P : X → Type 0) (xs : List X) (f g : FirstWithout P xs) → f.place ≡ g.place
one_first P xs f g = by (cases_lt f.place g.place) (cases_lt g.place f.place)
  where
    by : (f.place < g.place) ⊎ (g.place ≤ f.place) → (g.place < f.place) ⊎ (f.place ≤ g.place) → f.place ≡ g.place
    by (inl less) other = absurd (f.lacks (g.before f.place f.item less f.at))
    by (inr more) (inl less) = absurd (g.lacks (f.before g.place g.item less g.at))
    by (inr more) (inr fewer) = omega arith

-- the least number below a limit of which it holds
pub record Least (P : ℕ → Type 0) (limit : ℕ) : Type 0 where
  pub number : ℕ
  pub below : number < limit
  pub holds : P number
  pub before : (k : ℕ) → k < number → P k → ⊥

pub least_below : (P : ℕ → Type 0) → ((k : ℕ) → P k ⊎ (P k → ⊥)) → (limit : ℕ) → Least P limit ⊎ ((k : ℕ) → k < limit → P k → ⊥)
least_below P decide zero = inr (λ k low. absurd (omega arith))
least_below P decide (suc n) = by (least_below P decide n) (decide n)
  where
    none : ((k : ℕ) → k < n → P k → ⊥) → (P n → ⊥) → (k : ℕ) → k < suc n → P k → ⊥
    none rest fails k low holds =
        elim (cases_eq k n) [ inl is ↦ fails (subst P is holds) | inr other ↦ rest k (omega arith) holds ]

    by : Least P n ⊎ ((k : ℕ) → k < n → P k → ⊥) → P n ⊎ (P n → ⊥) → Least P (suc n) ⊎ ((k : ℕ) → k < suc n → P k → ⊥)
    by (inl least) here = inl (record { number = least.number; below = omega (arith, least.below); holds = least.holds; before = least.before })
    by (inr rest) (inl here) = inl (record { number = n; below = omega arith; holds = here; before = rest })
    by (inr rest) (inr fails) = inr (none rest fails)
