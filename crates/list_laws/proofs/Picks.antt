-- One choice for each number below a limit, as a list.
use Rattle.std.proofs.Common.{◌≡◌, ◌<◌, ◌⊎◌, ℕ, zero, suc, List, [], ◌∷◌, ◌++◌, Some, length, slice_get, refl, sym, subst, inl, inr, arith}
use Rattle.std.proofs.lemmas.Bool.{cases_eq}
use Rattle.std.proofs.lemmas.List.{length_push}
use Rattle.list_laws.proofs.Places.{get_front, get_after}

pub record Picked {X : Type 0} (P : ℕ → X → Type 0) (limit : ℕ) : Type 0 where
  pub list : List X
  pub long : length list ≡ limit
  pub each : (k : ℕ) → k < limit → (x : X) × (slice_get list k ≡ Some x) × P k x

pub pick : {X : Type 0} (P : ℕ → X → Type 0) (limit : ℕ) → ((k : ℕ) → k < limit → (x : X) × P k x) → Picked P limit
pick P zero choose = record { list = []; long = refl; each = λ k low. absurd (omega arith) }
pick {X} P (suc n) choose =
    let before = pick P n (λ k low. choose k (omega arith)) in
    let last = choose n (omega arith) in
    record {
      list = before.list ++ last.0 ∷ [];
      long = omega (arith, length_push before.list last.0, before.long);
      each = λ k low. by before last k low (cases_eq k n);
    }
  where
    by : (before : Picked P n) (last : (x : X) × P n x) (k : ℕ) → k < suc n → (k ≡ n) ⊎ (k ≡ n → ⊥) →
        (x : X) × (slice_get (before.list ++ last.0 ∷ []) k ≡ Some x) × P k x
    by before last k low (inl is) = (last.0, get_after before.list [] last.0 k (omega (arith, before.long)), subst (λ j. P j last.0) (sym is) last.1)
    by before last k low (inr other) =
        let r = before.each k (omega arith) in (r.0, get_front before.list (last.0 ∷ []) k r.0 r.1, r.2)
