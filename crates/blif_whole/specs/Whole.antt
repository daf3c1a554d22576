-- The lines that physical lines make.
use Rattle.std.specs.Prelude.{ℕ, List}
use Rattle.blif_lines.specs.Lines.{LineSaid, AreLinesFrom}

-- the physical lines, whose first has this number, make these lines
pub record HasLines (number : ℕ) (physical : List (List ℕ)) : Type 0 where
  pub ls : List LineSaid
  pub are : AreLinesFrom number physical ls
