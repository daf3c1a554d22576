-- The places of elements that pass a test.
use Rattle.std.proofs.Common.{◌≡◌, ◌+◌, ◌<◌, inl, inr, if◌then◌else◌, ℕ, zero, suc, Bool, true, false, List, [], ◌∷◌, ◌++◌, Some, length, get_or, take, refl, sym, ap, ◌∙◌, arith}
use Rattle.std.specs.Prelude.{slice_get}
use Rattle.std.proofs.lemmas.List.{take_more, length-take}
use Rattle.std.proofs.lemmas.Option.{slice_get-get_or}
use Rattle.vtr_base.specs.Lists.{Has}
use Rattle.prog_map.specs.Groups.{places_from}

pub places-push : {X : Type 0} (p : ℕ → X → Bool) (n : ℕ) (xs : List X) (x : X) →
    places_from p n (xs ++ x ∷ []) ≡ places_from p n xs ++ (if p (n + length xs) x then (n + length xs) ∷ [] else [])
places-push p n [] x =
    let here : n + 0 ≡ n = omega arith in
    ap (λ k. if p k x then k ∷ [] else []) (sym here)
places-push p n (y ∷ xs) x = by (p n y) (places-push p (n + 1) xs x)
  where
    by : (b : Bool) →
        places_from p (n + 1) (xs ++ x ∷ []) ≡ places_from p (n + 1) xs ++ (if p ((n + 1) + length xs) x then ((n + 1) + length xs) ∷ [] else []) →
        (if b then n ∷ places_from p (n + 1) (xs ++ x ∷ []) else places_from p (n + 1) (xs ++ x ∷ []))
        ≡ (if b then n ∷ places_from p (n + 1) xs else places_from p (n + 1) xs) ++ (if p (n + length (y ∷ xs)) x then (n + length (y ∷ xs)) ∷ [] else [])
    by true rest =
        let place : (n + 1) + length xs ≡ n + length (y ∷ xs) = omega arith in
        ap (λ l. n ∷ l) (rest ∙ ap (λ k. places_from p (n + 1) xs ++ (if p k x then k ∷ [] else [])) place)
    by false rest =
        let place : (n + 1) + length xs ≡ n + length (y ∷ xs) = omega arith in
        rest ∙ ap (λ k. places_from p (n + 1) xs ++ (if p k x then k ∷ [] else [])) place

-- the places in one element more of a list
pub places-take : {X : Type 0} (p : ℕ → X → Bool) (xs : List X) (n : ℕ) (x : X) → slice_get xs n ≡ Some x → n < length xs →
    places_from p 0 (take (n + 1) xs) ≡ places_from p 0 (take n xs) ++ (if p n x then n ∷ [] else [])
places-take p xs n x at inside =
    let read : get_or xs n x ≡ x = some_is (sym (slice_get-get_or xs n x inside) ∙ at) in
    let longer : take (n + 1) xs ≡ take n xs ++ x ∷ [] = take_more xs n x inside ∙ ap (λ y. take n xs ++ y ∷ []) read in
    let place : 0 + length (take n xs) ≡ n = omega (arith, length-take n xs) in
    ap (λ l. places_from p 0 l) longer ∙ places-push p 0 (take n xs) x ∙ ap (λ k. places_from p 0 (take n xs) ++ (if p k x then k ∷ [] else [])) place
  where
    some_is : {A : Type 0} {a b : A} → Some a ≡ Some b → a ≡ b
    some_is e = cc

-- a place that passes the test, and what stands there
pub record IsPlace {X : Type 0} (p : ℕ → X → Bool) (n : ℕ) (xs : List X) (k : ℕ) : Type 0 where
  pub place : ℕ
  pub number : k ≡ n + place
  pub is : X
  pub there : slice_get xs place ≡ Some is
  pub passes : p k is ≡ true

pub place_is : {X : Type 0} (p : ℕ → X → Bool) (n : ℕ) (xs : List X) (k : ℕ) → Has (places_from p n xs) k → IsPlace p n xs k
place_is p n [] k has = absurd has
place_is {X} p n (x ∷ xs) k has = by (λ h. place_is p (n + 1) xs k h) (p n x) refl has
  where
    later : IsPlace p (n + 1) xs k → IsPlace p n (x ∷ xs) k
    later r = record { place = suc r.place; number = omega (arith, r.number); is = r.is; there = r.there; passes = r.passes }

    by : (Has (places_from p (n + 1) xs) k → IsPlace p (n + 1) xs k) → (b : Bool) → p n x ≡ b →
        Has (if b then n ∷ places_from p (n + 1) xs else places_from p (n + 1) xs) k → IsPlace p n (x ∷ xs) k
    by rest true e (inl here) = record { place = 0; number = omega (arith, here); is = x; there = refl; passes = ap (λ m. p m x) here ∙ e }
    by rest true e (inr h) = later (rest h)
    by rest false e h = later (rest h)

pub is_place : {X : Type 0} (p : ℕ → X → Bool) (n : ℕ) (xs : List X) (place k : ℕ) (x : X) → slice_get xs place ≡ Some x → k ≡ n + place → p k x ≡ true →
    Has (places_from p n xs) k
is_place p n [] place k x at number passes = absurd (cc)
is_place p n (y ∷ xs) zero k x at number passes =
    let same : y ≡ x = cc in
    let here : k ≡ n = omega arith in
    let test : p n y ≡ true = ap (λ m. p m y) (sym here) ∙ ap (p k) same ∙ passes in
    by (p n y) test
  where
    by : (b : Bool) → b ≡ true → Has (if b then n ∷ places_from p (n + 1) xs else places_from p (n + 1) xs) k
    by true e = inl (omega arith)
    by false e = cc
is_place p n (y ∷ xs) (suc place) k x at number passes = by (p n y) (is_place p (n + 1) xs place k x at (omega arith) passes)
  where
    by : (b : Bool) → Has (places_from p (n + 1) xs) k → Has (if b then n ∷ places_from p (n + 1) xs else places_from p (n + 1) xs) k
    by true h = inr h
    by false h = h
