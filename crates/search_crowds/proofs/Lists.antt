-- Two words for what stands in a list, and lists that are mapped.
use Rattle.std.proofs.Common.{◌≡◌, ◌<◌, ◌≤◌, ◌+◌, ℕ, zero, suc, List, [], ◌∷◌, Some, length, map, slice_get, get_or, refl, sym, ap, arith}
use Rattle.std.specs.List.{All, Contains}
use Rattle.std.proofs.lemmas.Option.{get_or_from_slice_get, slice_get_within, slice_get_read, slice_get-get_or}
use Rattle.std.proofs.lemmas.List.Elements.{All-from_get_or}
use Rattle.vtr_base.specs.Lists.{Has, up_from}
use Rattle.list_laws.specs.Orders.{Once}
use Rattle.list_laws.proofs.Members.{has_at, at_has, has_up}
use Rattle.list_laws.proofs.Counting.{no_longer}

pub contains_has : {X : Type 0} (xs : List X) (x : X) → Contains xs x → Has xs x
contains_has xs x there = has_at xs there.0 x (slice_get_read xs (length xs) there.0 x refl there.1 (sym there.2))

pub has_contains : {X : Type 0} (xs : List X) (x : X) → Has xs x → Contains xs x
has_contains xs x has = let r = at_has xs x has in (r.0, slice_get_within xs r.0 x r.1, get_or_from_slice_get xs r.0 x x r.1)

-- what stands in a mapped list comes from what stands there
pub mapped : {A B : Type 0} (f : A → B) (xs : List A) (k : ℕ) (y : B) → slice_get (map f xs) k ≡ Some y → (x : A) × (slice_get xs k ≡ Some x) × (f x ≡ y)
mapped f [] k y is = absurd (let bad : ⊥ = cc is in bad)
mapped f (x ∷ xs) zero y is = (x, refl, let e : f x ≡ y = cc is in e)
mapped f (x ∷ xs) (suc k) y is = mapped f xs k y is

pub all_of_has : {X : Type 0} (P : X → Type 0) (xs : List X) (d : X) → ((x : X) → Has xs x → P x) → All P xs
all_of_has P xs d each = All-from_get_or P xs d (λ k less. each (get_or xs k d) (has_at xs k (get_or xs k d) (slice_get-get_or xs k d less)))

-- different numbers below a limit are no more than it
pub no_more_pins : (xs : List ℕ) (room : ℕ) → Once xs → ((x : ℕ) → Has xs x → x < room) → length xs ≤ room
no_more_pins xs room once inside =
    let few = no_longer xs (up_from 0 room) once (λ x has. has_up 0 room x (omega arith) (let less = inside x has in omega (arith, less))) in
    omega (arith, few, up_length 0 room)
  where
    up_length : (n k : ℕ) → length (up_from n k) ≡ k
    up_length n zero = refl
    up_length n (suc k) = ap (λ m. suc m) (up_length (n + 1) k)
