-- What holds of every place before one, and the first place of a name.
use Rattle.std.proofs.Common.{◌≡◌, ◌<◌, ◌≤◌, ◌+◌, ◌⊎◌, inl, inr, ℕ, List, [], ◌∷◌, length, map, refl, sym, ap, ◌∙◌, subst, arith, Option, Some, None, get_or}
use Rattle.std.specs.Prelude.{slice_get}
use Rattle.std.specs.Option.{option_map}
use Rattle.std.proofs.lemmas.Bool.{cases_eq}
use Rattle.std.proofs.lemmas.List.{length-map}
use Rattle.std.proofs.lemmas.Option.{slice_get_within, slice_get-get_or, slice_get-map}

pub from_some : {X : Type 0} {x y : X} → Some x ≡ Some y → x ≡ y
from_some e = cc

-- the element at that place, through a map
pub map_at : {X Y : Type 0} (f : X → Y) (xs : List X) (n : ℕ) (x : X) → n < length xs → x ≡ get_or xs n x → slice_get (map f xs) n ≡ Some (f x)
map_at f xs n x inside read = slice_get-map f xs n ∙ ap (option_map f) (slice_get-get_or xs n x inside ∙ ap Some (sym read))

-- where something is not so of x at the place n and of no earlier one, it is so of none before n + 1
pub none_more : {X : Type 0} (xs : List X) (P : ℕ → X → Type 0) (n : ℕ) (x : X) → slice_get xs n ≡ Some x →
    ((k : ℕ) (y : X) → k < n → slice_get xs k ≡ Some y → P k y) → P n x → (k : ℕ) (y : X) → k < n + 1 → slice_get xs k ≡ Some y → P k y
none_more xs P n x there before here k y low at = by_place (cases_eq k n)
  where
    by_place : (k ≡ n) ⊎ (k ≡ n → ⊥) → P k y
    by_place (inl e) =
        let same : x ≡ y = from_some (sym there ∙ sym (ap (slice_get xs) e) ∙ at) in
        subst (λ p. P p y) (sym e) (subst (λ z. P n z) same here)
    by_place (inr apart) = before k y (omega arith) at

pub name_at : {X Y : Type 0} (f : X → Y) (xs : List X) (n : ℕ) (d : X) → n < length xs → slice_get (map f xs) n ≡ Some (f (get_or xs n d))
name_at f xs n d inside = slice_get-map f xs n ∙ ap (option_map f) (slice_get-get_or xs n d inside)
