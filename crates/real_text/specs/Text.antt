-- The text of a realisation, and the first line that can't be read.
use Rattle.std.specs.Prelude.{◌≡◌, ◌≢◌, ◌⊎◌, ◌+◌, ℕ, min, List, [], ◌∷◌, ◌++◌, length}
use Rattle.std.specs.Str.Lines.{lines}
use Rattle.pb_expand.specs.Graph.{Graph}
use Rattle.prog_text.specs.declared.error.ProgError.{ProgError}
use Rattle.prog_text.specs.declared.error.ProgError.TheVariants.{BadLine, NoSuchSite, NoSuchChoice, TwiceSet, OutOfMemory}
use Rattle.task_types.specs.declared.task.Task.{Task}
use Rattle.task_types.specs.declared.real.Real.{Real}
use Rattle.real_lines.specs.declared.line.RealLine.{RealLine}
use Rattle.real_lines.specs.Lines.{SpellsLine, LacksLine}
use Rattle.real_text.specs.Steps.{nothing_read, AreHoused, LacksHomes, Adds, Denies}

-- the line adds what it spells
pub record AddsLine (g : Graph) (t : Task) (atoms nets : List (List ℕ)) (line : List ℕ) (before after : Real) : Type 0 where
  pub says : RealLine
  pub spells : SpellsLine g t atoms nets line says
  pub adds : Adds t says before after

-- what a line does to what was read: an empty line nothing, any other adds something; `atoms` and `nets`
-- have the names of the task's atoms and nets
abbrev pub ReadsLine : Graph → Task → List (List ℕ) → List (List ℕ) → List ℕ → Real → Real → Type 0
ReadsLine g t atoms nets line before after = ((line ≡ []) × (after ≡ before)) ⊎ AddsLine g t atoms nets line before after

abbrev pub ReadsLines : Graph → Task → List (List ℕ) → List (List ℕ) → List (List ℕ) → Real → Real → Type 0
ReadsLines g t atoms nets [] before after = after ≡ before
ReadsLines g t atoms nets (line ∷ rest) before after =
    (next : Real) × ReadsLine g t atoms nets line before next × ReadsLines g t atoms nets rest next after

-- the bytes spell the realisation
pub record SpellsReal (g : Graph) (t : Task) (atoms nets : List (List ℕ)) (bytes : List ℕ) (r : Real) : Type 0 where
  pub reads : ReadsLines g t atoms nets (lines bytes) nothing_read r
  pub housed : AreHoused t r

-- the line with this number spells something that may not come next
pub record DeniesLine (g : Graph) (t : Task) (atoms nets : List (List ℕ)) (line : List ℕ) (before : Real) (number : ℕ) (e : ProgError) : Type 0 where
  pub says : RealLine
  pub spells : SpellsLine g t atoms nets line says
  pub denies : Denies t says before e number

-- why the line can't be read: it isn't empty, and spells nothing, or what may not come next
pub record RefusesLine (g : Graph) (t : Task) (atoms nets : List (List ℕ)) (line : List ℕ) (before : Real) (number : ℕ) (e : ProgError) : Type 0 where
  pub some : line ≢ []
  pub why : LacksLine g t atoms nets line number e ⊎ DeniesLine g t atoms nets line before number e

-- lines are counted from 1, empty ones too, and the count stands still at 2^32 - 1
abbrev pub line_number : List (List ℕ) → ℕ
line_number front = min (1 + length front) 4294967295

-- why the lines that are left can't go on, of which the first has this number: it can't be read, or
-- there is none, and a home is missing
abbrev pub Fails : Graph → Task → List (List ℕ) → List (List ℕ) → Real → List (List ℕ) → ℕ → ProgError → Type 0
Fails g t atoms nets before [] number (BadLine at) = (at ≡ number) × LacksHomes t before
Fails g t atoms nets before [] number (NoSuchSite at) = ⊥
Fails g t atoms nets before [] number (NoSuchChoice at) = ⊥
Fails g t atoms nets before [] number (TwiceSet at) = ⊥
Fails g t atoms nets before [] number OutOfMemory = ⊥
Fails g t atoms nets before (line ∷ rest) number e = RefusesLine g t atoms nets line before number e

-- the lines `front` are read, and what is behind them fails
pub record StopsAt (g : Graph) (t : Task) (atoms nets all : List (List ℕ)) (e : ProgError) : Type 0 where
  pub front : List (List ℕ)
  pub rest : List (List ℕ)
  pub are : all ≡ front ++ rest
  pub before : Real
  pub reads : ReadsLines g t atoms nets front nothing_read before
  pub fails : Fails g t atoms nets before rest (line_number front) e

-- the bytes spell no realisation, and this says why
abbrev pub Refuses : Graph → Task → List (List ℕ) → List (List ℕ) → List ℕ → ProgError → Type 0
Refuses g t atoms nets bytes (BadLine at) = StopsAt g t atoms nets (lines bytes) (BadLine at)
Refuses g t atoms nets bytes (NoSuchSite at) = StopsAt g t atoms nets (lines bytes) (NoSuchSite at)
Refuses g t atoms nets bytes (NoSuchChoice at) = StopsAt g t atoms nets (lines bytes) (NoSuchChoice at)
Refuses g t atoms nets bytes (TwiceSet at) = StopsAt g t atoms nets (lines bytes) (TwiceSet at)
Refuses g t atoms nets bytes OutOfMemory = Unit {0}
