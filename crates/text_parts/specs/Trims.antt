-- A text without the white space at its ends.
use Rattle.std.specs.Prelude.{◌≡◌, ℕ, false, List, [], ◌∷◌, ◌++◌}
use Rattle.std.specs.List.{AllPass}
use Rattle.vtr_base.specs.Spans.{is_white, Stops}

-- the text doesn't end in white space
abbrev pub EndsInWord : List ℕ → Type 0
EndsInWord text = (front : List ℕ) (b : ℕ) → text ≡ front ++ b ∷ [] → is_white b ≡ false

-- `inner` is the text without the white space at its end
pub record IsCutAtEnd (text inner : List ℕ) : Type 0 where
  pub back : List ℕ
  pub spelled : text ≡ inner ++ back
  pub white : AllPass is_white back
  pub ends : EndsInWord inner

-- `inner` is the text without the white space at its start and at its end
pub record IsTrimmed (text inner : List ℕ) : Type 0 where
  pub front : List ℕ
  pub back : List ℕ
  pub spelled : text ≡ front ++ (inner ++ back)
  pub front_white : AllPass is_white front
  pub back_white : AllPass is_white back
  pub starts : Stops is_white inner
  pub ends : EndsInWord inner
