-- A line of two sides, divided at `=` or `:`.
use Rattle.std.specs.Prelude.{◌≡◌, ◌==◌, ◌⊎◌, ℕ, Bool, true, false, List, [], ◌∷◌, ◌++◌, if◌then◌else◌}
use Rattle.vtr_base.specs.Spans.{Lacks, IsCut}

-- whether a place behind a text is inside brackets: the last bracket before it, if any, opens
abbrev pub inside_from : Bool → List ℕ → Bool
inside_from inside [] = inside
inside_from inside (b ∷ bs) =
    if b == 91 then inside_from true bs else if b == 93 then inside_from false bs else inside_from inside bs

abbrev pub is_inside : List ℕ → Bool
is_inside text = inside_from false text

-- the text is cut at the first `:` that isn't inside brackets
pub record IsColonCut (text left right : List ℕ) : Type 0 where
  pub spelled : text ≡ left ++ 58 ∷ right
  pub outside : is_inside left ≡ false
  pub first : (front rest : List ℕ) → left ≡ front ++ 58 ∷ rest → is_inside front ≡ true

-- the two sides of a line: of the first `=`, or, in a line without one, of that `:`
abbrev pub HasSides : List ℕ → List ℕ → List ℕ → Type 0
HasSides text left right = IsCut text 61 left right ⊎ (Lacks text 61 × IsColonCut text left right)
