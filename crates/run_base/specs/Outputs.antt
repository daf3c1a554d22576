-- What stands in an output file.
use Rattle.std.specs.Prelude.{◌≡◌, ◌⊎◌, ◌++◌, ℕ, List, Option, Some, None}
use Rattle.vtr_base.specs.Outside.{Files, with_file}
use Rattle.run_base.specs.Worlds.{World}

-- the world of a run that writes files
abbrev pub change : Option Files → Option Files → ℕ → ℕ → World
change files left before after = record { files = files; left = left; faults = before; faults_left = after }

-- the named file has these bytes, and all else is as before
abbrev pub wrote : List ℕ → List ℕ → Option Files → Option Files
wrote name bytes None = None
wrote name bytes (Some m) = Some (with_file m name bytes)

-- all is as before, or the named file has a front of the text and all else is as before
abbrev pub WrotePart : List ℕ → List ℕ → Option Files → Option Files → Type 0
WrotePart name text old new =
    (new ≡ old) ⊎ ((front rest : List ℕ) × (text ≡ front ++ rest) × (new ≡ wrote name front old))
