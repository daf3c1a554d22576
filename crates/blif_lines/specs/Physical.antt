-- A physical line of a BLIF file: a comment from its first `#` on, and a `\` that joins the next
-- line.
use Rattle.std.specs.Prelude.{◌≡◌, ◌+◌, ◌⊎◌, ℕ, Bool, true, false, min, List, [], ◌∷◌, ◌++◌}
use Rattle.vtr_base.specs.Spans.{Lacks, IsCut}

-- what stands before the first `#`, where there is one, and else the whole line
abbrev pub IsBeforeComment : List ℕ → List ℕ → Type 0
IsBeforeComment line said =
    (Lacks line 35 × (said ≡ line)) ⊎ ((comment : List ℕ) × IsCut line 35 said comment)

-- a physical line with its number: all its bytes, what is left of them without its comment and
-- without a `\` at the end of that, and whether that `\` is there
pub record Piece : Type 0 where
  pub number : ℕ
  pub line : List ℕ
  pub text : List ℕ
  pub joins : Bool

-- with the comment cut off, a `\` is the last character, or it isn't
abbrev pub IsLeft : List ℕ → List ℕ → Bool → Type 0
IsLeft said text joins =
    ((joins ≡ true) × (said ≡ text ++ 92 ∷ []))
    ⊎ ((joins ≡ false) × (said ≡ text) × ((front : List ℕ) → said ≡ front ++ 92 ∷ [] → ⊥))

pub record IsPiece (number : ℕ) (line : List ℕ) (p : Piece) : Type 0 where
  pub number_is : p.number ≡ number
  pub line_is : p.line ≡ line
  pub said : List ℕ
  pub before_comment : IsBeforeComment line said
  pub left : IsLeft said p.text p.joins

-- lines are counted from 1, and the count stands still at 2^32 - 1
abbrev pub following : ℕ → ℕ
following number = min (number + 1) 4294967295
