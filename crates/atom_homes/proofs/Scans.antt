-- Scans of a list for an element that fits.
use Rattle.std.proofs.Common.{◌≡◌, ◌<◌, ◌≤◌, ◌+◌, ◌⊎◌, ℕ, List, [], ◌∷◌, ◌++◌, Some, length, take, get_or, sym, ap, ◌∙◌, subst, inl, inr}
use Rattle.std.proofs.lemmas.List.{take_more, take_all}
use Rattle.std.proofs.lemmas.Option.{slice_get-get_or}
use Rattle.vtr_base.specs.Lists.{Has}
use Rattle.list_laws.proofs.Members.{has_at, has_pushed}

abbrev pub NoneOf : {X : Type 0} → (X → Type 0) → List X → Type 0
NoneOf {X} P xs = (x : X) → Has xs x → P x → ⊥

pub has_item : {X : Type 0} (xs : List X) (i : ℕ) (x : X) → i < length xs → x ≡ get_or xs i x → Has xs x
has_item xs i x low is = has_at xs i x (slice_get-get_or xs i x low ∙ ap Some (sym is))

pub none_more : {X : Type 0} (P : X → Type 0) (xs : List X) (i : ℕ) (x : X) → i < length xs → x ≡ get_or xs i x → NoneOf P (take i xs) → (P x → ⊥) → NoneOf P (take (i + 1) xs)
none_more {X} P xs i x low is none fails = subst (λ (l : List X). NoneOf P l) (sym front) (λ y has. by y (has_pushed (take i xs) x y has))
  where
    front : take (i + 1) xs ≡ take i xs ++ x ∷ []
    front = take_more xs i x low ∙ ap (λ (y : X). take i xs ++ y ∷ []) (sym is)

    by : (y : X) → Has (take i xs) y ⊎ (y ≡ x) → P y → ⊥
    by y (inl has) holds = none y has holds
    by y (inr same) holds = fails (subst P same holds)

pub none_all : {X : Type 0} (P : X → Type 0) (xs : List X) (i : ℕ) → length xs ≤ i → NoneOf P (take i xs) → NoneOf P xs
none_all {X} P xs i past none = subst (λ (l : List X). NoneOf P l) (take_all i xs past) none
