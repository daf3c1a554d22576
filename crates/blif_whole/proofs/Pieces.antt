-- A physical line has a piece.
use Rattle.std.proofs.Common.{◌≡◌, ◌==◌, ◌⊎◌, inl, inr, ℕ, Bool, true, false, not, List, [], ◌∷◌, ◌++◌, length, refl, ap, arith}
use Rattle.std.proofs.lemmas.Bool.{cases_Bool}
use Rattle.std.proofs.lemmas.Bool.Decides.{nat_tests}
use Rattle.std.proofs.lemmas.List.{length-append}
use Rattle.std.proofs.lemmas.List.Elements.{All-nil, All-cons}
use Rattle.vtr_base.specs.Spans.{Lacks, IsCut}
use Rattle.blif_lines.specs.Physical.{IsBeforeComment, Piece, IsLeft, IsPiece}

same_byte : (b s : ℕ) → (b == s) ≡ true → b ≡ s
same_byte b s e = grind (arith, nat_tests)

other_byte : (b s : ℕ) → (b == s) ≡ false → b ≡ s → ⊥
other_byte b s e is = grind (arith, nat_tests)

-- where a byte first stands
record Cut (text : List ℕ) (s : ℕ) : Type 0 where
  front : List ℕ
  rest : List ℕ
  is : IsCut text s front rest

lacks_more : (b s : ℕ) (text : List ℕ) → (b == s) ≡ false → Lacks text s → Lacks (b ∷ text) s
lacks_more b s text other lacks = All-cons (λ x. not (x == s) ≡ true) b text (ap not other) lacks

cut_more : (b s : ℕ) (text : List ℕ) → (b == s) ≡ false → Cut text s → Cut (b ∷ text) s
cut_more b s text other cut = record {
  front = b ∷ cut.front;
  rest = cut.rest;
  is = record { spelled = ap (λ (l : List ℕ). b ∷ l) cut.is.spelled; lacks = lacks_more b s cut.front other cut.is.lacks };
}

cut_here : (b s : ℕ) (text : List ℕ) → (b == s) ≡ true → Cut (b ∷ text) s
cut_here b s text same = record {
  front = [];
  rest = text;
  is = record { spelled = ap (λ (x : ℕ). x ∷ text) (same_byte b s same); lacks = All-nil (λ x. not (x == s) ≡ true) };
}

cut_or_lacks : (text : List ℕ) (s : ℕ) → Lacks text s ⊎ Cut text s
cut_or_lacks [] s = inl (All-nil (λ x. not (x == s) ≡ true))
cut_or_lacks (b ∷ text) s = by (cases_Bool (b == s)) (cut_or_lacks text s)
  where
    by : ((b == s) ≡ true) ⊎ ((b == s) ≡ false) → Lacks text s ⊎ Cut text s → Lacks (b ∷ text) s ⊎ Cut (b ∷ text) s
    by (inl same) rest = inr (cut_here b s text same)
    by (inr other) (inl lacks) = inl (lacks_more b s text other lacks)
    by (inr other) (inr cut) = inr (cut_more b s text other cut)

before : (line : List ℕ) → (said : List ℕ) × IsBeforeComment line said
before line = elim (cut_or_lacks line 35) [ inl lacks ↦ (line, inl (lacks, refl)) | inr cut ↦ (cut.front, inr (cut.rest, cut.is)) ]

-- the last byte
abbrev EndsIn : List ℕ → ℕ → Type 0
EndsIn text s = (front : List ℕ) × (text ≡ front ++ s ∷ [])

none_ends : (s : ℕ) (front : List ℕ) → [] ≡ front ++ s ∷ [] → ⊥
none_ends s front is = absurd (omega (arith, ap length is, length-append front (s ∷ [])))

one_ends : (b s : ℕ) (front : List ℕ) → (b ≡ s → ⊥) → b ∷ [] ≡ front ++ s ∷ [] → ⊥
one_ends b s [] other is = other (let e : b ∷ [] ≡ s ∷ [] = is in let f : b ≡ s = cc in f)
one_ends b s (x ∷ front) other is = none_ends s front (let e : b ∷ [] ≡ x ∷ (front ++ s ∷ []) = is in let f : [] ≡ front ++ s ∷ [] = cc in f)

more_ends : (b c s : ℕ) (text front : List ℕ) → ((f : List ℕ) → c ∷ text ≡ f ++ s ∷ [] → ⊥) → b ∷ c ∷ text ≡ front ++ s ∷ [] → ⊥
more_ends b c s text [] none is = absurd (omega (arith, ap length is))
more_ends b c s text (x ∷ front) none is = none front (let e : b ∷ c ∷ text ≡ x ∷ (front ++ s ∷ []) = is in let f : c ∷ text ≡ front ++ s ∷ [] = cc in f)

ends_or_not : (text : List ℕ) (s : ℕ) → EndsIn text s ⊎ ((front : List ℕ) → text ≡ front ++ s ∷ [] → ⊥)
ends_or_not [] s = inr (λ front is. none_ends s front is)
ends_or_not (b ∷ []) s = by (cases_Bool (b == s))
  where
    by : ((b == s) ≡ true) ⊎ ((b == s) ≡ false) → EndsIn (b ∷ []) s ⊎ ((front : List ℕ) → b ∷ [] ≡ front ++ s ∷ [] → ⊥)
    by (inl same) = inl ([], ap (λ (x : ℕ). x ∷ []) (same_byte b s same))
    by (inr other) = inr (λ front is. one_ends b s front (other_byte b s other) is)
ends_or_not (b ∷ c ∷ text) s = by (ends_or_not (c ∷ text) s)
  where
    by : EndsIn (c ∷ text) s ⊎ ((front : List ℕ) → c ∷ text ≡ front ++ s ∷ [] → ⊥) → EndsIn (b ∷ c ∷ text) s ⊎ ((front : List ℕ) → b ∷ c ∷ text ≡ front ++ s ∷ [] → ⊥)
    by (inl ends) = inl (b ∷ ends.0, ap (λ (l : List ℕ). b ∷ l) ends.1)
    by (inr none) = inr (λ front is. more_ends b c s text front none is)

pub record OfLine (number : ℕ) (line : List ℕ) : Type 0 where
  pub piece : Piece
  pub is : IsPiece number line piece

-- a physical line has a piece
pub piece_of : (number : ℕ) (line : List ℕ) → OfLine number line
piece_of number line = by (before line)
  where
    of : (said text : List ℕ) (joins : Bool) → IsBeforeComment line said → IsLeft said text joins → OfLine number line
    of said text joins first left = record {
      piece = record { number = number; line = line; text = text; joins = joins };
      is = record { number_is = refl; line_is = refl; said = said; before_comment = first; left = left };
    }

    by : (said : List ℕ) × IsBeforeComment line said → OfLine number line
    by said =
        elim (ends_or_not said.0 92) [
          | inl ends ↦ of said.0 ends.0 true said.1 (inl (refl, ends.1))
          | inr none ↦ of said.0 said.0 false said.1 (inr (refl, refl, none))
        ]
