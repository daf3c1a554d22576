-- The line that a writer has so far.
use Rattle.std.specs.Prelude.{ℕ, List, [], ◌++◌}

-- the bytes so far of a line, and the greatest length of a line with its line feed
pub record WrittenLine : Type 0 where
  pub so_far : List ℕ
  pub longest : ℕ

abbrev pub with_piece : WrittenLine → List ℕ → WrittenLine
with_piece w piece = record { so_far = w.so_far ++ piece; longest = w.longest }

abbrev pub emptied : WrittenLine → WrittenLine
emptied w = record { so_far = []; longest = w.longest }
