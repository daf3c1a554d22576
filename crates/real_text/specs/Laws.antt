-- Laws of the text of a realisation.
use Rattle.std.specs.Prelude.{◌≡◌, ℕ, List}
use Rattle.pb_expand.specs.Graph.{Graph}
use Rattle.prog_text.specs.declared.error.ProgError.{ProgError}
use Rattle.prog_text.specs.declared.error.ProgError.TheVariants.{OutOfMemory}
use Rattle.prog_text.specs.Laws.{AreOneRefusal}
use Rattle.task_types.specs.declared.task.Task.{Task}
use Rattle.task_types.specs.declared.real.Real.{Real}
use Rattle.real_text.specs.Text.{SpellsReal, Refuses}

-- a text spells one realisation at most
abbrev pub SpellsOneReal : Graph → Task → List (List ℕ) → List (List ℕ) → Type 0
SpellsOneReal g t atoms nets =
    (bytes : List ℕ) (a b : Real) → SpellsReal g t atoms nets bytes a → SpellsReal g t atoms nets bytes b → a ≡ b

-- a text that spells a realisation is refused by want of memory alone
abbrev pub IsReadWhereSpelled : Graph → Task → List (List ℕ) → List (List ℕ) → Type 0
IsReadWhereSpelled g t atoms nets =
    (bytes : List ℕ) (r : Real) (e : ProgError) → SpellsReal g t atoms nets bytes r → Refuses g t atoms nets bytes e → e ≡ OutOfMemory

-- a text is refused in one way, or by want of memory
abbrev pub RefusesInOneWay : Graph → Task → List (List ℕ) → List (List ℕ) → Type 0
RefusesInOneWay g t atoms nets =
    (bytes : List ℕ) (e f : ProgError) → Refuses g t atoms nets bytes e → Refuses g t atoms nets bytes f → AreOneRefusal e f
