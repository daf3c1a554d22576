-- The text of a programming, one choice a line, and the first line that can't be read.
use Rattle.std.specs.Prelude.{◌≡◌, ◌≢◌, ◌⊎◌, ◌+◌, ℕ, min, List, [], ◌∷◌, length}
use Rattle.pb_expand.specs.Graph.{Graph}
use Rattle.prog_text.specs.declared.error.ProgError.{ProgError}
use Rattle.prog_text.specs.declared.error.ProgError.TheVariants.{BadLine, NoSuchSite, NoSuchChoice, TwiceSet, OutOfMemory}
use Rattle.prog_map.specs.declared.setting.Setting.{Setting}
use Rattle.prog_map.specs.Choices.{Choices, no_choices}
use Rattle.prog_text.specs.Lines.{IsFirstLine, AreFirstLines}
use Rattle.prog_text.specs.Sayings.{Saying, Says}
use Rattle.prog_text.specs.Settings.{Names, LacksSite, LacksChoice}
use Rattle.prog_map.specs.Sites.{site_of, HasChoice, with_setting}

-- the line sets a site that no earlier line sets
pub record SetsSite (g : Graph) (line : List ℕ) (before after : Choices) : Type 0 where
  pub saying : Saying
  pub says : Says line saying
  pub setting : Setting
  pub names : Names g saying setting
  pub unset : HasChoice before (site_of setting) → ⊥
  pub sets : after ≡ with_setting before setting

-- what a line does to the choices: an empty line nothing, any other sets one site
abbrev pub ReadsLine : Graph → List ℕ → Choices → Choices → Type 0
ReadsLine g line before after = ((line ≡ []) × (after ≡ before)) ⊎ SetsSite g line before after

abbrev pub ReadsLines : Graph → List (List ℕ) → Choices → Choices → Type 0
ReadsLines g [] before after = after ≡ before
ReadsLines g (line ∷ lines) before after = (next : Choices) × ReadsLine g line before next × ReadsLines g lines next after

-- the bytes spell the programming
pub record SpellsProg (g : Graph) (bytes : List ℕ) (c : Choices) : Type 0 where
  pub lines : List (List ℕ)
  pub are_lines : AreFirstLines bytes lines []
  pub reads : ReadsLines g lines no_choices c

-- why a line with this number names no site and choice, where `Said` tells what it says: it says
-- nothing, or what it says lacks its site, or its choice
abbrev pub Lacks : Graph → (Saying → Type 0) → ℕ → ProgError → Type 0
Lacks g Said number (BadLine line) = (line ≡ number) × ((saying : Saying) → Said saying → ⊥)
Lacks g Said number (NoSuchSite line) = (line ≡ number) × ((saying : Saying) × Said saying × LacksSite g saying)
Lacks g Said number (NoSuchChoice line) = (line ≡ number) × ((saying : Saying) × Said saying × LacksChoice g saying)
Lacks g Said number (TwiceSet line) = ⊥
Lacks g Said number OutOfMemory = Unit {0}

-- the line sets a site that an earlier line sets
pub record SetsAgain (g : Graph) (line : List ℕ) (before : Choices) : Type 0 where
  pub saying : Saying
  pub says : Says line saying
  pub setting : Setting
  pub names : Names g saying setting
  pub set : HasChoice before (site_of setting)

-- why the line can't be read
abbrev pub RefusesLine : Graph → List ℕ → Choices → ℕ → ProgError → Type 0
RefusesLine g line before number (TwiceSet at) = (at ≡ number) × SetsAgain g line before
RefusesLine g line before number e = Lacks g (Says line) number e

-- the first line has a number, and lines are counted on from there, empty ones too; the count stands
-- still at 2^32 - 1
abbrev pub line_number : ℕ → List (List ℕ) → ℕ
line_number first front = min (first + length front) 4294967295

-- the lines `front` are read, and the line behind them can't be
pub record StopsAt (g : Graph) (first : ℕ) (bytes : List ℕ) (e : ProgError) : Type 0 where
  pub front : List (List ℕ)
  pub rest : List ℕ
  pub are_first : AreFirstLines bytes front rest
  pub before : Choices
  pub reads : ReadsLines g front no_choices before
  pub line : List ℕ
  pub behind : List ℕ
  pub is_line : IsFirstLine rest line behind
  pub some : line ≢ []
  pub refuses : RefusesLine g line before (line_number first front) e

-- the bytes, whose first line has this number, spell no programming, and this says why
abbrev pub RefusesFrom : Graph → ℕ → List ℕ → ProgError → Type 0
RefusesFrom g first bytes OutOfMemory = Unit {0}
RefusesFrom g first bytes e = StopsAt g first bytes e

-- the same where lines are counted from 1
abbrev pub Refuses : Graph → List ℕ → ProgError → Type 0
Refuses g bytes e = RefusesFrom g 1 bytes e
