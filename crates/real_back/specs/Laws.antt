-- What is written of a realisation spells it.
use Rattle.std.specs.Prelude.{ℕ, List}
use Rattle.pb_expand.specs.Graph.{Graph}
use Rattle.prog_text.specs.Spelling.{prog_text}
use Rattle.prog_text.specs.Text.{SpellsProg}
use Rattle.task_types.specs.declared.task.Task.{Task}
use Rattle.task_types.specs.declared.real.Real.{Real}
use Rattle.task_types.specs.Nets.{NetSaid}
use Rattle.task_types.specs.Realises.{Realises}
use Rattle.real_text.specs.Text.{SpellsReal}
use Rattle.real_back.specs.Spelling.{real_text}
use Rattle.real_back.specs.There.{IsThere}

-- the text of a realisation that names what is there spells it, where that of its programming spells
-- the programming
abbrev pub SpellsBack : Graph → Task → List (List ℕ) → List (List ℕ) → Type 0
SpellsBack g t atoms nets =
    (r : Real) → IsThere g t r → SpellsProg g (prog_text g r.prog) r.prog → SpellsReal g t atoms nets (real_text g atoms nets r) r

-- what realises a task names what is there
abbrev pub IsThereWhereRealised : Type 0
IsThereWhereRealised = (g : Graph) (n : NetSaid) (t : Task) (r : Real) → Realises g n t r → IsThere g t r

-- so does what a text spells
abbrev pub IsThereWhereSpelled : Graph → Task → List (List ℕ) → List (List ℕ) → Type 0
IsThereWhereSpelled g t atoms nets = (bytes : List ℕ) (r : Real) → SpellsReal g t atoms nets bytes r → IsThere g t r
