-- The lines of a file: each ends at a line feed or at the end of the file, and a carriage return
-- right before a line feed is dropped.
use Rattle.std.specs.Prelude.{◌≡◌, ◌≢◌, ◌⊎◌, ℕ, List, [], ◌∷◌, ◌++◌}
use Rattle.vtr_base.specs.Spans.{Lacks}

-- the line is what stands before a line feed
abbrev pub DropsReturn : List ℕ → List ℕ → Type 0
DropsReturn whole line =
    (whole ≡ line ++ 13 ∷ []) ⊎ ((whole ≡ line) × ((front : List ℕ) → whole ≡ front ++ 13 ∷ [] → ⊥))

-- the bytes begin with this line, and the rest follows it
pub record EndsAtFeed (bytes line rest : List ℕ) : Type 0 where
  pub whole : List ℕ
  pub spelled : bytes ≡ whole ++ 10 ∷ rest
  pub lacks : Lacks whole 10
  pub drops : DropsReturn whole line

pub record EndsAtEnd (bytes line rest : List ℕ) : Type 0 where
  pub some : bytes ≢ []
  pub spelled : bytes ≡ line
  pub lacks : Lacks line 10
  pub nothing : rest ≡ []

abbrev pub IsFirstLine : List ℕ → List ℕ → List ℕ → Type 0
IsFirstLine bytes line rest = EndsAtFeed bytes line rest ⊎ EndsAtEnd bytes line rest

-- the bytes begin with these lines, and the rest follows them
abbrev pub AreFirstLines : List ℕ → List (List ℕ) → List ℕ → Type 0
AreFirstLines bytes [] rest = rest ≡ bytes
AreFirstLines bytes (line ∷ lines) rest = (behind : List ℕ) × IsFirstLine bytes line behind × AreFirstLines behind lines rest

-- the lines of the bytes
abbrev pub AreLines : List ℕ → List (List ℕ) → Type 0
AreLines bytes lines = AreFirstLines bytes lines []
