-- The words that tell a task, as clauses see them.
use Rattle.std.specs.Prelude.{ℕ, List}
use Rattle.run_tasks.specs.declared.words.TaskWords.{TaskWords}

-- two files, the name of a block type, and a file
pub record WordsSaid : Type 0 where
  pub arch : List ℕ
  pub blif : List ℕ
  pub block : List ℕ
  pub atoms : List ℕ

abbrev pub words_said : TaskWords → WordsSaid
words_said words = record { arch = words.arch.now; blif = words.blif.now; block = words.block.now; atoms = words.atoms.now }
