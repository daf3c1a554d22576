-- Numbers that are kept by x and y.
use Rattle.std.proofs.Common.{◌≡◌, ◌≤◌, ◌+◌, ◌⊎◌, ℕ, Bool, true, false, cond, nat_eq, List, Option, Some, None, MatchOption, slice_get, true≢false, refl, sym, ap, ◌∙◌, subst, inl, inr, arith}
use Rattle.std.proofs.lemmas.Bool.{cases_lt, and_parts, and_from}
use Rattle.std.proofs.lemmas.Bool.Decides.{nat_tests}
use Rattle.rr_locs.specs.declared.firsts.Spot.{Spot}
use Rattle.rr_locs.specs.declared.firsts.Firsts.{Firsts}
use Rattle.rr_locs.specs.declared.roots.LocAt.{LocAt}
use Rattle.rr_locs.specs.Firsts.{same_spot, first_at, AddsFirst, StartsAt, StartsNone, AreStarts}

nat_same : (m n : ℕ) → nat_eq m n ≡ true → m ≡ n
nat_same m n e = grind (arith, nat_tests)

nat_itself : (m n : ℕ) → m ≡ n → nat_eq m n ≡ true
nat_itself m n e = grind (arith, nat_tests)

abbrev spot : ℕ → ℕ → Spot
spot x y = record { x = x; y = y }

spot_same : (x y v w : ℕ) → same_spot (spot x y) (spot v w) ≡ true → (x ≡ v) × (y ≡ w)
spot_same x y v w e = (let k = and_parts (nat_eq x v) (nat_eq y w) e in (nat_same x v k.0, nat_same y w k.1))

spot_itself : (x y v w : ℕ) → (x ≡ v) × (y ≡ w) → same_spot (spot x y) (spot v w) ≡ true
spot_itself x y v w both = and_from (nat_eq x v) (nat_eq y w) (nat_itself x v both.0) (nat_itself y w both.1)

spot_either : (x y v w : ℕ) → ((x ≡ v) × (y ≡ w)) ⊎ (same_spot (spot x y) (spot v w) ≡ false)
spot_either x y v w = by (same_spot (spot x y) (spot v w)) refl
  where
    by : (b : Bool) → same_spot (spot x y) (spot v w) ≡ b → ((x ≡ v) × (y ≡ w)) ⊎ (same_spot (spot x y) (spot v w) ≡ false)
    by true t = inl (spot_same x y v w t)
    by false f = inr f

pub adds_first : (f g : Firsts) (x y number : ℕ) →
    ((q : Spot) → first_at g q.x q.y ≡ cond (same_spot (spot x y) q) (Some number) (first_at f q.x q.y)) → AddsFirst f x y number g
adds_first f g x y number updates = record {
  added = updates (spot x y) ∙ ap (λ b. cond b (Some number) (first_at f x y)) (spot_itself x y x y (refl, refl));
  others = λ v w apart. updates (spot v w) ∙ ap (λ b. cond b (Some number) (first_at f v w)) (other v w apart (spot_either x y v w));
}
  where
    other : (v w : ℕ) → ((x ≡ v) × (y ≡ w) → ⊥) → ((x ≡ v) × (y ≡ w)) ⊎ (same_spot (spot x y) (spot v w) ≡ false) → same_spot (spot x y) (spot v w) ≡ false
    other v w apart (inl same) = absurd (apart same)
    other v w apart (inr f) = f

none_more : (locs : List LocAt) (n x y : ℕ) → StartsNone locs n x y → (StartsAt locs x y n → ⊥) → StartsNone locs (n + 1) x y
none_more locs n x y none last k low starts =
    elim (cases_lt k n) [
      | inl less ↦ none k less starts
      | inr more ↦ (let same : k ≡ n = omega (arith, low, more) in last (subst (StartsAt locs x y) same starts))
    ]

pub starts_pass : (locs : List LocAt) (n : ℕ) (f : Firsts) → AreStarts locs n f → ((x y : ℕ) → StartsAt locs x y n → ⊥) → AreStarts locs (n + 1) f
starts_pass locs n f are lacks x y = by (first_at f x y) (are x y)
  where
    by : (o : Option ℕ) → MatchOption o (StartsNone locs n x y) (StartsAt locs x y) → MatchOption o (StartsNone locs (n + 1) x y) (StartsAt locs x y)
    by None none = none_more locs n x y none (lacks x y)
    by (Some k) starts = starts

pub starts_more : (locs : List LocAt) (n : ℕ) (loc : LocAt) (f g : Firsts) → slice_get locs n ≡ Some loc → loc.sub ≡ 0 → AreStarts locs n f →
    AddsFirst f loc.x loc.y n g → AreStarts locs (n + 1) g
starts_more locs n loc f g at sub are adds x y = by (spot_either loc.x loc.y x y)
  where
    old : (o : Option ℕ) → MatchOption o (StartsNone locs n x y) (StartsAt locs x y) → (StartsAt locs x y n → ⊥) →
        MatchOption o (StartsNone locs (n + 1) x y) (StartsAt locs x y)
    old None none last = none_more locs n x y none last
    old (Some k) starts last = starts

    by : ((loc.x ≡ x) × (loc.y ≡ y)) ⊎ (same_spot (spot loc.x loc.y) (spot x y) ≡ false) →
        MatchOption (first_at g x y) (StartsNone locs (n + 1) x y) (StartsAt locs x y)
    by (inl same) =
        let new : first_at g x y ≡ Some n =
        subst (λ v. first_at g v y ≡ Some n) same.0 (subst (λ w. first_at g loc.x w ≡ Some n) same.1 adds.added) in
        rw new (record { loc = loc; at = at; x_is = same.0; y_is = same.1; sub_is = sub })
    by (inr f_is) =
        let apart : (loc.x ≡ x) × (loc.y ≡ y) → ⊥ = λ both. true≢false (sym (spot_itself loc.x loc.y x y both) ∙ f_is) in
        rw (adds.others x y apart)
        (old (first_at f x y) (are x y) (λ starts.
        let both : Some loc ≡ Some starts.loc = sym at ∙ starts.at in
        let one : loc ≡ starts.loc = cc in
        apart (ap (λ l. l.x) one ∙ starts.x_is, ap (λ l. l.y) one ∙ starts.y_is)))

pub starts_past : (locs : List LocAt) (m n : ℕ) (f : Firsts) → n ≤ m → AreStarts locs m f → AreStarts locs n f
starts_past locs m n f low are x y = by (first_at f x y) (are x y)
  where
    by : (o : Option ℕ) → MatchOption o (StartsNone locs m x y) (StartsAt locs x y) → MatchOption o (StartsNone locs n x y) (StartsAt locs x y)
    by None none = λ k less starts. none k (omega (arith, less, low)) starts
    by (Some k) starts = starts
