-- The table of the commands, and what the words of each are.
use Rattle.std.specs.Prelude.{◌≡◌, ℕ, List, [], ◌∷◌, Option, Some, None, codes, map, length, slice_get}
use Rattle.run_words.specs.declared.shape.Shape.{Shape}
use Rattle.run_words.specs.declared.shape.WordKind.{WordKind}
use Rattle.run_words.specs.declared.shape.WordKind.TheVariants.{Input, Text}
use Rattle.run_words.specs.Words.{option_of}
use Rattle.run_words.specs.Commands.{IsCommand}
use Rattle.run_tasks.specs.Words.{WordsSaid, words_said}
use Rattle.vtr_top.specs.declared.table.Task.{Task}
use Rattle.vtr_top.specs.declared.table.Task.TheVariants.{Trace, Refute}

-- a command: its name, the kinds of its words, and its option
pub record Row : Type 0 where
  pub name : List ℕ
  pub kinds : List WordKind
  pub option : Option (List ℕ)

abbrev pub row_of : Shape → Row
row_of shape = record { name = shape.name.now; kinds = shape.words.now; option = option_of shape }

-- `trace ARCH BLOCK PROG`
abbrev pub trace_row : Row
trace_row = record { name = codes "trace"; kinds = Input ∷ (Text ∷ (Input ∷ [])); option = None }

-- `refute ARCH BLIF BLOCK ATOMS TREE`
abbrev pub refute_row : Row
refute_row = record { name = codes "refute"; kinds = Input ∷ (Input ∷ (Text ∷ (Input ∷ (Input ∷ [])))); option = None }

-- the commands, in the order of their rows
abbrev pub commands : List Row
commands = trace_row ∷ (refute_row ∷ [])

abbrev pub IsTable : List Shape → Type 0
IsTable table = map row_of table ≡ commands

-- there are as many words as the command of that row has
pub record FitsRow (row count : ℕ) : Type 0 where
  pub command : Row
  pub there : slice_get commands row ≡ Some command
  pub all : count ≡ length command.kinds

-- the words of `refute`
abbrev pub words_of : WordsSaid → List ℕ → List (List ℕ)
words_of said tree = said.arch ∷ (said.blif ∷ (said.block ∷ (said.atoms ∷ (tree ∷ []))))

-- the plain words of that row are those of the task
abbrev pub IsTaskOf : ℕ → List (List ℕ) → Task → Type 0
IsTaskOf row plain (Trace arch block prog) = (row ≡ 0) × (plain ≡ arch.now ∷ (block.now ∷ (prog.now ∷ [])))
IsTaskOf row plain (Refute of tree) =
    (row ≡ 1) × (plain ≡ words_of (words_said of) tree.now)

-- the words of a command line are those of the task
pub record AreWordsOf (words : List (List ℕ)) (task : Task) : Type 0 where
  pub table : List Shape
  pub is_table : IsTable table
  pub row : ℕ
  pub options : List (List ℕ)
  pub plain : List (List ℕ)
  pub command : IsCommand table words row options plain
  pub is : IsTaskOf row plain task
