-- What a mapped list and a filtered list contain.
use Rattle.std.proofs.Common.{◌≡◌, ◌≢◌, ◌⊎◌, ◌<◌, ◌+◌, ℕ, zero, suc, true, false, List, [], ◌∷◌, ◌++◌, map, take, length, get_or, arith, ap, ◌∙◌, sym, subst, inl, inr, refl}
use Rattle.std.specs.Prelude.{nat_eq, not}
use Rattle.std.specs.List.{Contains}
use Rattle.std.proofs.lemmas.Bool.{cases_eq}
use Rattle.std.proofs.lemmas.List.{append-nil, get_or-map, length-map, map-append, take_more}
use Rattle.std.proofs.lemmas.List.Elements.{Contains-get_or, filter_more}
use Rattle.anneal_placer.specs.Rects.{holds, without}

pub in_rest : (y : ℕ) (xs : List ℕ) (x : ℕ) → Contains xs x → Contains (y ∷ xs) x
in_rest y xs x (k, inside, is) = (suc k, omega arith, is)

pub first_or_rest : (y : ℕ) (xs : List ℕ) (x : ℕ) → Contains (y ∷ xs) x → (y ≡ x) ⊎ Contains xs x
first_or_rest y xs x (zero, inside, is) = inl is
first_or_rest y xs x (suc k, inside, is) = inr (k, omega arith, is)

pub in_first : (x : ℕ) (xs : List ℕ) → Contains (x ∷ xs) x
in_first x xs = (zero, omega arith, refl)

-- a value of a mapped list is that of a member
pub from_map : (f : ℕ → ℕ) (xs : List ℕ) (value : ℕ) → Contains (map f xs) value → (x : ℕ) × Contains xs x × (f x ≡ value)
from_map f xs value (k, inside, is) =
    let within : k < length xs = rw (← length-map xs f) inside in
    (get_or xs k 0, Contains-get_or xs k 0 within, sym (get_or-map f xs k 0 value within) ∙ is)

pub in_map : (f : ℕ → ℕ) (xs : List ℕ) (x value : ℕ) → Contains xs x → f x ≡ value → Contains (map f xs) value
in_map f xs x value (k, inside, is) same =
    (k, rw (length-map xs f) inside, get_or-map f xs k x value inside ∙ ap f is ∙ same)

without_same : (block x : ℕ) (xs : List ℕ) → x ≡ block → without block (x ∷ xs) ≡ without block xs
without_same block x xs same = grind (arith, same)

without_other : (block x : ℕ) (xs : List ℕ) → x ≢ block → without block (x ∷ xs) ≡ x ∷ without block xs
without_other block x xs other = grind (arith, other)

pub in_without : (block : ℕ) (net : List ℕ) (x : ℕ) → Contains net x → x ≢ block → Contains (without block net) x
in_without block [] x (k, inside, is) other = absurd (omega arith)
in_without block (y ∷ ys) x there other =
    elim (first_or_rest y ys x there) [
      | inl is ↦ rw (without_other block y ys (λ same. other (sym is ∙ same))) (subst (λ z. Contains (z ∷ without block ys) x) (sym is) (in_first x _))
      | inr rest ↦
          elim (cases_eq y block) [
            | inl same ↦ rw (without_same block y ys same) (in_without block ys x rest other)
            | inr differs ↦ rw (without_other block y ys differs) (in_rest y _ x (in_without block ys x rest other))
          ]
    ]

pub from_without : (block : ℕ) (net : List ℕ) (x : ℕ) → Contains (without block net) x → Contains net x × (x ≢ block)
from_without block [] x (k, inside, is) = absurd (omega arith)
from_without block (y ∷ ys) x there =
    elim (cases_eq y block) [
      | inl same ↦
          let rest = from_without block ys x (subst (λ zs. Contains zs x) (without_same block y ys same) there) in
          (in_rest y ys x rest.0, rest.1)
      | inr differs ↦
          elim (first_or_rest y (without block ys) x (subst (λ zs. Contains zs x) (without_other block y ys differs) there)) [
            | inl is ↦ (subst (λ z. Contains (z ∷ ys) x) (sym is) (in_first x ys), λ same. differs (is ∙ same))
            | inr later ↦ let rest = from_without block ys x later in (in_rest y ys x rest.0, rest.1)
          ]
    ]

pub held : (block : ℕ) (net : List ℕ) → holds block net ≡ true → Contains net block
held block [] is = absurd (cc)
held block (x ∷ xs) is =
    elim (cases_eq x block) [
      | inl same ↦ subst (λ z. Contains (z ∷ xs) block) (sym same) (in_first block xs)
      | inr differs ↦ in_rest x xs block (held block xs (let e : holds block xs ≡ true = grind (arith, is, differs) in e))
    ]

pub not_held : (block : ℕ) (net : List ℕ) (x : ℕ) → holds block net ≡ false → Contains net x → x ≢ block
not_held block [] x is (k, inside, _) = absurd (omega arith)
not_held block (y ∷ ys) x is there =
    let differs : y ≢ block = grind (arith, is) in
    let later : holds block ys ≡ false = grind (arith, is) in
    elim (first_or_rest y ys x there) [
      | inl same ↦ λ bad. differs (same ∙ bad)
      | inr rest ↦ not_held block ys x later rest
    ]

pub map_more : (f : ℕ → ℕ) (xs : List ℕ) (k : ℕ) → k < length xs → map f (take (k + 1) xs) ≡ map f (take k xs) ++ f (get_or xs k 0) ∷ []
map_more f xs k inside = ap (map f) (take_more xs k 0 inside) ∙ map-append f (take k xs) (get_or xs k 0 ∷ [])

pub without_more : (block : ℕ) (xs : List ℕ) (k : ℕ) → k < length xs → get_or xs k 0 ≢ block → without block (take (k + 1) xs) ≡ without block (take k xs) ++ get_or xs k 0 ∷ []
without_more block xs k inside other =
    let e = filter_more (λ x. not (nat_eq x block)) xs k 0 inside in
    let test : not (nat_eq (get_or xs k 0) block) ≡ true = grind (arith, other) in
    rw test at e

pub without_past : (block : ℕ) (xs : List ℕ) (k : ℕ) → k < length xs → get_or xs k 0 ≡ block → without block (take (k + 1) xs) ≡ without block (take k xs)
without_past block xs k inside same =
    let e = filter_more (λ x. not (nat_eq x block)) xs k 0 inside in
    let test : not (nat_eq (get_or xs k 0) block) ≡ false = grind (arith, same) in
    (rw test at e) ∙ append-nil (without block (take k xs))
