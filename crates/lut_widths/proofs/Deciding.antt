-- Numbers that are equal or not, powers of two, and least numbers.
use Rattle.std.proofs.Common.{◌≡◌, ◌≤◌, ◌<◌, ◌^◌, ◌⊎◌, ◌↔◌, inl, inr, ℕ, zero, suc, Bool, true, false, IsTrue, min, Option, Some, None, refl, sym, ap, subst, arith}
use Rattle.std.proofs.Math.Pow.{pow-lt}
use Rattle.std.proofs.lemmas.Bool.Decides.{nat_tests}
use Rattle.lut_widths.specs.Fields.{IsLeast}
use Rattle.lut_widths.specs.Tables.{least_with}

pub same_or_not : (a b : ℕ) → (a ≡ b) ⊎ (a ≡ b → ⊥)
same_or_not zero zero = inl refl
same_or_not zero (suc b) = inr (λ e. absurd (omega (arith, e)))
same_or_not (suc a) zero = inr (λ e. absurd (omega (arith, e)))
same_or_not (suc a) (suc b) = elim (same_or_not a b) [ inl e ↦ inl (ap suc e) | inr n ↦ inr (λ e. n (omega (arith, e))) ]

pub untrue : (v : Bool) → v ≡ false → v ≡ true → ⊥
untrue v f t = cc

-- two powers of two are equal where their exponents are
pub same_power : (w a b : ℕ) → w ≡ 2 ^ a → w ≡ 2 ^ b → a ≡ b
same_power w a b p q = elim (same_or_not a b) [ inl e ↦ e | inr n ↦ absurd (apart (less_or_more a b n)) ]
  where
    less_or_more : (m n : ℕ) → (m ≡ n → ⊥) → (m < n) ⊎ (n < m)
    less_or_more m n other = grind (arith, nat_tests)

    apart : (a < b) ⊎ (b < a) → ⊥
    apart (inl less) = let h : 2 ^ a < 2 ^ b = pow-lt less in omega (arith, h, p, q)
    apart (inr more) = let h : 2 ^ b < 2 ^ a = pow-lt more in omega (arith, h, p, q)

-- least numbers

pub least_alike : (P Q : ℕ → Type 0) → ((n : ℕ) → P n ↔ Q n) → (least : Option ℕ) → IsLeast P least → IsLeast Q least
least_alike P Q same None least = λ n q. least n ((same n).1 q)
least_alike P Q same (Some n) least = ((same n).0 least.0, λ m q. least.1 m ((same m).1 q))

-- with one number more, or not
pub least_more : (P : ℕ → Type 0) (N : Type 0) (counts : Bool) (least : Option ℕ) (line : ℕ) → IsTrue counts ↔ N → IsLeast P least →
    IsLeast (λ n. P n ⊎ ((n ≡ line) × N)) (least_with counts least line)
least_more P N false least line is old = least_alike P (λ n. P n ⊎ ((n ≡ line) × N)) (λ n. (λ p. inl p, back n)) least old
  where
    back : (n : ℕ) → P n ⊎ ((n ≡ line) × N) → P n
    back n (inl p) = p
    back n (inr new) = absurd (untrue false refl (is.1 new.1))
least_more P N true None line is old = (inr (refl, is.0 refl), least)
  where
    least : (m : ℕ) → P m ⊎ ((m ≡ line) × N) → line ≤ m
    least m (inl p) = absurd (old m p)
    least m (inr new) = omega (arith, new.0)
least_more P N true (Some other) line is old = by (less_or_not other line)
  where
    less_or_not : (m n : ℕ) → ((m ≤ n) × (min m n ≡ m)) ⊎ ((n ≤ m) × (min m n ≡ n))
    less_or_not m n = grind (arith, nat_tests)

    least : (x m : ℕ) → x ≤ other → x ≤ line → P m ⊎ ((m ≡ line) × N) → x ≤ m
    least x m below under (inl p) = let h : other ≤ m = old.1 m p in omega (arith, h)
    least x m below under (inr new) = omega (arith, new.0)

    by : ((other ≤ line) × (min other line ≡ other)) ⊎ ((line ≤ other) × (min other line ≡ line)) → IsLeast (λ n. P n ⊎ ((n ≡ line) × N)) (Some (min other line))
    by (inl first) = (subst (λ n. P n ⊎ ((n ≡ line) × N)) (sym first.1) (inl old.0), λ m p. least (min other line) m (omega (arith, first.1)) (omega (arith, first.0, first.1)) p)
    by (inr second) =
        (subst (λ n. P n ⊎ ((n ≡ line) × N)) (sym second.1) (inr (refl, is.0 refl)), λ m p. least (min other line) m (omega (arith, second.0, second.1)) (omega (arith, second.1)) p)
