-- Laws of the lines of a realisation's text.
use Rattle.std.specs.Prelude.{◌≡◌, ℕ, List}
use Rattle.list_laws.specs.Orders.{StandOnce}
use Rattle.pb_expand.specs.Graph.{Graph}
use Rattle.prog_text.specs.declared.error.ProgError.{ProgError}
use Rattle.prog_text.specs.declared.error.ProgError.TheVariants.{OutOfMemory}
use Rattle.prog_text.specs.Laws.{AreOneRefusal}
use Rattle.task_types.specs.declared.task.Task.{Task}
use Rattle.real_lines.specs.declared.line.RealLine.{RealLine}
use Rattle.real_lines.specs.Lines.{SpellsLine, LacksLine}

-- where the atoms have different names, and the nets have, a line spells one thing at most
abbrev pub SpellsOneThing : Graph → Type 0
SpellsOneThing g =
    (t : Task) (atoms nets : List (List ℕ)) (line : List ℕ) (x y : RealLine) → StandOnce atoms → StandOnce nets →
    SpellsLine g t atoms nets line x → SpellsLine g t atoms nets line y → x ≡ y

-- a line that spells something lacks nothing
abbrev pub LacksNothingSpelled : Graph → Type 0
LacksNothingSpelled g =
    (t : Task) (atoms nets : List (List ℕ)) (line : List ℕ) (x : RealLine) (n : ℕ) (e : ProgError) → StandOnce atoms → StandOnce nets →
    SpellsLine g t atoms nets line x → LacksLine g t atoms nets line n e → e ≡ OutOfMemory

-- a line lacks one thing
abbrev pub LacksInOneWay : Graph → Type 0
LacksInOneWay g =
    (t : Task) (atoms nets : List (List ℕ)) (line : List ℕ) (n : ℕ) (e f : ProgError) → StandOnce atoms → StandOnce nets →
    LacksLine g t atoms nets line n e → LacksLine g t atoms nets line n f → AreOneRefusal e f
