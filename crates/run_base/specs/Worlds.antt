-- What a run meets and what it leaves: the files of its shelf, with the count of faults, and the
-- bytes of its sink.
use Rattle.std.specs.Prelude.{◌≡◌, ◌≤◌, ℕ, List, Option, Some, length}
use Rattle.vtr_base.specs.Outside.{Files, file, WhereKnown, Rose}

-- the files of a shelf before and after, where it tells them, and its count of faults
pub record World : Type 0 where
  pub files : Option Files
  pub left : Option Files
  pub faults : ℕ
  pub faults_left : ℕ

-- what a sink has got before and after, where it tells that, and its count of faults
pub record Shown : Type 0 where
  pub bytes : Option (List ℕ)
  pub got : Option (List ℕ)
  pub faults : ℕ
  pub faults_left : ℕ

-- the world of a run that changes no file
abbrev pub world : Option Files → ℕ → ℕ → World
world files before after = record { files = files; left = files; faults = before; faults_left = after }

abbrev pub shown : Option (List ℕ) → Option (List ℕ) → ℕ → ℕ → Shown
shown bytes got before after = record { bytes = bytes; got = got; faults = before; faults_left = after }

-- the shelf's count of faults rose
abbrev pub Failed : World → Type 0
Failed w = Rose w.faults w.faults_left

-- the sink's count of faults rose
abbrev pub SinkFailed : Shown → Type 0
SinkFailed s = Rose s.faults s.faults_left

-- how many bytes an input file may have
abbrev pub room : ℕ
room = 67108864

-- the file has these bytes, where the files are told, and there is room for them
pub record Fetched (w : World) (name bytes : List ℕ) : Type 0 where
  pub fits : length bytes ≤ room
  pub is : WhereKnown w.files (λ m. file m name ≡ Some bytes)
