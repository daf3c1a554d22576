-- What a search by a test says of the list.
use Rattle.std.proofs.Common.{◌≡◌, ◌<◌, ◌≤◌, ◌||◌, ℕ, Bool, true, false, not, nat_lt, cond, List, [], ◌∷◌, Option, Some, None, MatchOption, length, map, slice_get, position, refl, sym, ap, ◌∙◌, inl, inr, arith}
use Rattle.std.specs.List.{list_any, position_or_len}
use Rattle.std.specs.Option.{option_map}
use Rattle.std.proofs.lemmas.Bool.{false≢true}
use Rattle.std.proofs.lemmas.Bool.Decides.{nat_tests}
use Rattle.std.proofs.lemmas.List.Sums.{fails_before_first, prefix_len_stops}
use Rattle.std.proofs.lemmas.Option.{slice_get_within, slice_get-map, get_or_from_slice_get}
use Rattle.vtr_base.specs.Lists.{Has}
use Rattle.std.proofs.lemmas.List.{length-map}
use Rattle.list_laws.proofs.Places.{element}

-- no element passes, so none is found
pub any_none : {X : Type 0} (p : X → Bool) (xs : List X) → ((x : X) → Has xs x → p x ≡ true → ⊥) → list_any p xs ≡ false
any_none p [] none = refl
any_none {X} p (x ∷ xs) none = by (p x) refl (any_none p xs (λ y has. none y (inr has)))
  where
    by : (b : Bool) → p x ≡ b → list_any p xs ≡ false → (b || list_any p xs) ≡ false
    by true passes rest = absurd (none x (inl refl) passes)
    by false fails rest = rest

true_of_not : (b : Bool) → not b ≡ false → b ≡ true
true_of_not true e = refl
true_of_not false e = cc

-- the place that `position` answers, where the test tells whether the view of an element is y
pub position_says : {X Y : Type 0} (p : X → Bool) (view : X → Y) (y : Y) → ((x : X) → p x ≡ true → view x ≡ y) → ((x : X) → view x ≡ y → p x ≡ true) →
    (xs : List X) (r : Option ℕ) → r ≡ position p xs →
    MatchOption r ((n : ℕ) → slice_get (map view xs) n ≡ Some y → ⊥) (λ n. slice_get (map view xs) n ≡ Some y)
position_says {X} {Y} p view y only all xs r e = rw e (by (nat_lt (position_or_len p xs) (length xs)) refl)
  where
    passes : (n : ℕ) (x : X) → slice_get xs n ≡ Some x → slice_get (map view xs) n ≡ Some y → p x ≡ true
    passes n x at seen =
        let here : Some (view x) ≡ Some y = sym (slice_get-map view xs n ∙ ap (option_map view) at) ∙ seen in
        all x (cc)

    by : (b : Bool) → nat_lt (position_or_len p xs) (length xs) ≡ b →
        MatchOption (cond b (Some (position_or_len p xs)) None) ((n : ℕ) → slice_get (map view xs) n ≡ Some y → ⊥) (λ n. slice_get (map view xs) n ≡ Some y)
    by true t =
        let inside : position_or_len p xs < length xs = grind (arith, nat_tests, t) in
        let x = element xs (position_or_len p xs) inside in
        let read = get_or_from_slice_get xs (position_or_len p xs) x.0 x.0 x.1 in
        let stops = prefix_len_stops (λ z. not (p z)) xs x.0 inside in
        let here : p x.0 ≡ true = true_of_not (p x.0) (ap (λ z. not (p z)) (sym read) ∙ stops) in
        slice_get-map view xs (position_or_len p xs) ∙ ap (option_map view) x.1 ∙ ap Some (only x.0 here)
    by false t = λ n seen.
        (let past : length xs ≤ position_or_len p xs = grind (arith, nat_tests, t) in
        let x = element xs n (omega (arith, slice_get_within (map view xs) n y seen, length-map xs view)) in
        let read = get_or_from_slice_get xs n x.0 x.0 x.1 in
        let fails = fails_before_first p xs n x.0 (omega (arith, slice_get_within xs n x.0 x.1)) in
        false≢true (sym (ap p (sym read) ∙ fails) ∙ passes n x.0 x.1 seen))
