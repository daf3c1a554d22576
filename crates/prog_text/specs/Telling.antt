-- How the refusals of programmings are printed: number, name and the line, each behind a space.
use Rattle.std.specs.Prelude.{ℕ, Bool, true, false, List, ◌++◌, codes}
use Rattle.std.specs.Fmt.{decimal}
use Rattle.prog_text.specs.declared.error.ProgError.{ProgError}
use Rattle.prog_text.specs.declared.error.ProgError.TheVariants.{BadLine, NoSuchSite, NoSuchChoice, TwiceSet, OutOfMemory}

abbrev pub prog_text : ProgError → List ℕ
prog_text (BadLine line) = codes "51 BadLine " ++ decimal line
prog_text (NoSuchSite line) = codes "52 NoSuchSite " ++ decimal line
prog_text (NoSuchChoice line) = codes "53 NoSuchChoice " ++ decimal line
prog_text (TwiceSet line) = codes "54 TwiceSet " ++ decimal line
prog_text OutOfMemory = codes "memory"

abbrev pub is_want_of_memory : ProgError → Bool
is_want_of_memory OutOfMemory = true
is_want_of_memory _ = false
