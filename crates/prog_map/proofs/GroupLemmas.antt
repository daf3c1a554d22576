-- Groups of numbers, number by number.
use Rattle.std.proofs.Common.{◌≡◌, ◌+◌, ◌<◌, if◌then◌else◌, cond, ℕ, Bool, true, false, List, [], ◌∷◌, ◌++◌, Option, Some, length, take, refl, sym, ap, ◌∙◌, arith}
use Rattle.std.specs.Prelude.{slice_get}
use Rattle.std.specs.Option.{option_map_or}
use Rattle.std.specs.HashMap.{HashMap, get}
use Rattle.std.proofs.lemmas.List.{append-nil}
use Rattle.std.proofs.lemmas.Bool.Decides.{nat_tests}
use Rattle.prog_map.specs.declared.groups.ModeAt.{ModeAt}
use Rattle.prog_map.specs.Groups.{same_mode, mode_ix, grouped, GetsNumber, places_from}
use Rattle.prog_map.proofs.Places.{places-take}

abbrev pub numbers_of : Option (List ℕ) → List ℕ
numbers_of o = option_map_or (λ (numbers : List ℕ). numbers) o []

pub one_mode : (m n : ModeAt) → same_mode m n ≡ true → m ≡ n
one_mode m n same =
    let pbs : m.pb.0 ≡ n.pb.0 = grind (arith, nat_tests) in
    let modes : m.mode ≡ n.mode = grind (arith, nat_tests) in
    let both : mode_ix m.pb.0 m.mode ≡ mode_ix n.pb.0 n.mode = cc in both

-- the table after the list of one mode got one more
pub grouped_push : {S : Type 0} (old new : HashMap ModeAt (List ℕ) S) (at : ModeAt) (number : ℕ) (was : List ℕ) →
    ((q : ModeAt) → get same_mode new q ≡ cond (same_mode at q) (Some (was ++ number ∷ [])) (get same_mode old q)) → numbers_of (get same_mode old at) ≡ was →
    GetsNumber old new (λ pb mode. same_mode at (mode_ix pb mode)) number
grouped_push old new at number was updates is pb mode = by (same_mode at (mode_ix pb mode)) refl
  where
    by : (b : Bool) → same_mode at (mode_ix pb mode) ≡ b → grouped new pb mode ≡ grouped old pb mode ++ (if b then number ∷ [] else [])
    by true e =
        let here : at ≡ mode_ix pb mode = one_mode at (mode_ix pb mode) e in
        let before : grouped old pb mode ≡ was = sym (ap (λ x. numbers_of (get same_mode old x)) here) ∙ is in
        ap numbers_of (updates (mode_ix pb mode) ∙ ap (λ b. cond b (Some (was ++ number ∷ [])) (get same_mode old (mode_ix pb mode))) e)
        ∙ ap (λ l. l ++ number ∷ []) (sym before)
    by false e =
        ap numbers_of (updates (mode_ix pb mode) ∙ ap (λ b. cond b (Some (was ++ number ∷ [])) (get same_mode old (mode_ix pb mode))) e)
        ∙ sym (append-nil (grouped old pb mode))

-- nothing was added where no mode passes the test
pub none_added : {S : Type 0} (old new : HashMap ModeAt (List ℕ) S) (test : ℕ → ℕ → Bool) (number : ℕ) → new ≡ old → ((pb mode : ℕ) → test pb mode ≡ false) →
    GetsNumber old new test number
none_added old new test number same none pb mode =
    ap (λ m. grouped m pb mode) same ∙ sym (append-nil (grouped old pb mode)) ∙ ap (λ b. grouped old pb mode ++ (if b then number ∷ [] else [])) (sym (none pb mode))

-- a test that says the same of each mode
pub same_added : {S : Type 0} (old new : HashMap ModeAt (List ℕ) S) (test other : ℕ → ℕ → Bool) (number : ℕ) → ((pb mode : ℕ) → test pb mode ≡ other pb mode) →
    GetsNumber old new test number → GetsNumber old new other number
same_added old new test other number same gets pb mode =
    gets pb mode ∙ ap (λ b. grouped old pb mode ++ (if b then number ∷ [] else [])) (same pb mode)

-- the places in a list, one element more
pub group_more : {S X : Type 0} (p : ℕ → ℕ → ℕ → X → Bool) (xs : List X) (n : ℕ) (x : X) (old new : HashMap ModeAt (List ℕ) S) → slice_get xs n ≡ Some x → n < length xs →
    ((pb mode : ℕ) → grouped old pb mode ≡ places_from (p pb mode) 0 (take n xs)) → GetsNumber old new (λ pb mode. p pb mode n x) n →
    (pb mode : ℕ) → grouped new pb mode ≡ places_from (p pb mode) 0 (take (n + 1) xs)
group_more p xs n x old new at inside before gets pb mode =
    gets pb mode ∙ ap (λ l. l ++ (if p pb mode n x then n ∷ [] else [])) (before pb mode) ∙ sym (places-take (p pb mode) xs n x at inside)
