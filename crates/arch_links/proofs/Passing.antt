-- Going through a list to the first element of which something holds.
use Rattle.std.proofs.Common.{List, [], ◌∷◌, ◌++◌, refl, inl, inr}
use Rattle.arch_links.specs.First.{IsFirst, IsOfNone}

-- what is left of a list after elements of which it doesn't hold
pub record IsPassed {X : Type 0} (P : X → Type 0) (xs rest : List X) : Type 0 where
  pub on : IsOfNone P rest → IsOfNone P xs
  pub first : (x : X) → IsFirst P rest x → IsFirst P xs x

pub starts : {X : Type 0} (P : X → Type 0) (xs : List X) → IsPassed P xs xs
starts P xs = record { on = λ none. none; first = λ x is. is }

pub passes_one : {X : Type 0} (P : X → Type 0) (xs : List X) (y : X) (rest : List X) → IsPassed P xs (y ∷ rest) → (P y → ⊥) → IsPassed P xs rest
passes_one P xs y rest passed other = record { on = λ none. passed.on (other, none); first = λ x is. passed.first x (inr (other, is)) }

pub stops_at : {X : Type 0} (P : X → Type 0) (xs : List X) (y : X) (rest : List X) → IsPassed P xs (y ∷ rest) → P y → IsFirst P xs y
stops_at P xs y rest passed holds = passed.first y (inl (refl, holds))

none_append : {X : Type 0} (P : X → Type 0) (ys rest : List X) → IsOfNone P ys → IsOfNone P rest → IsOfNone P (ys ++ rest)
none_append P [] rest none later = later
none_append P (y ∷ ys) rest none later = (none.0, none_append P ys rest none.1 later)

first_right : {X : Type 0} (P : X → Type 0) (ys rest : List X) (x : X) → IsOfNone P ys → IsFirst P rest x → IsFirst P (ys ++ rest) x
first_right P [] rest x none is = is
first_right P (y ∷ ys) rest x none is = inr (none.0, first_right P ys rest x none.1 is)

first_left : {X : Type 0} (P : X → Type 0) (ys rest : List X) (x : X) → IsFirst P ys x → IsFirst P (ys ++ rest) x
first_left P [] rest x is = absurd is
first_left P (y ∷ ys) rest x (inl here) = inl here
first_left P (y ∷ ys) rest x (inr later) = inr (later.0, first_left P ys rest x later.1)

pub passes : {X : Type 0} (P : X → Type 0) (xs ys rest : List X) → IsPassed P xs (ys ++ rest) → IsOfNone P ys → IsPassed P xs rest
passes P xs ys rest passed none = record { on = λ later. passed.on (none_append P ys rest none later); first = λ x is. passed.first x (first_right P ys rest x none is) }

pub stops_in : {X : Type 0} (P : X → Type 0) (xs ys rest : List X) (x : X) → IsPassed P xs (ys ++ rest) → IsFirst P ys x → IsFirst P xs x
stops_in P xs ys rest x passed is = passed.first x (first_left P ys rest x is)
