-- What a sink over one file of a shelf tells.
use Rattle.std.specs.Prelude.{ℕ, List, Option, Some, None}
use Rattle.std.specs.FinMap.{remove}
use Rattle.vtr_base.specs.Outside.{Files, file, Beside}

-- the bytes of the named file, where files are told
abbrev pub bytes_at : List ℕ → Option Files → Option (List ℕ)
bytes_at name None = None
bytes_at name (Some m) = file m name

-- all files but the named one, where files are told
abbrev pub others_than : List ℕ → Option Files → Option Files
others_than name None = None
others_than name (Some m) = Some (remove m name)

-- the file's name, the other files, and the borrow of the shelf
abbrev pub beside_of : List ℕ → Option Files → ℕ → Option Beside
beside_of name files loan = Some (record { name = name; others = others_than name files; loan = loan })
