-- What a run says: its status with its cause, and what the sink got.
use Rattle.std.specs.Prelude.{◌≡◌, ◌⊎◌, ℕ, List}
use Rattle.vtr_base.specs.Outside.{written, WrittenPart}
use Rattle.run_base.specs.declared.status.Status.{Status}
use Rattle.run_base.specs.declared.status.Status.TheVariants as status
use Rattle.run_base.specs.Worlds.{World, Shown, SinkFailed}
use Rattle.run_base.specs.Prints.{SaysOf, words_text, memory_text}
use Rattle.run_words.specs.declared.shape.Shape.{Shape}
use Rattle.run_words.specs.Commands.{IsFirstWrong}
use Rattle.cmd_trace.specs.Trace.{AnswersTrace, StopsTrace}
use Rattle.cmd_refute.specs.Refute.{AnswersRefute, StopsRefute}
use Rattle.run_tasks.specs.Words.{words_said}
use Rattle.vtr_top.specs.declared.table.Task.{Task}
use Rattle.vtr_top.specs.declared.table.Task.TheVariants.{Trace, Refute}
use Rattle.vtr_top.specs.Table.{IsTable, AreWordsOf}

-- the words are no command, and the line names the first that can't stand
pub record SaysWords (words : List (List ℕ)) (s : Status) (text : List ℕ) : Type 0 where
  pub table : List Shape
  pub is_table : IsTable table
  pub place : ℕ
  pub wrong : IsFirstWrong table words place
  pub is : s ≡ status.Words
  pub line : text ≡ words_text place

-- what a command says: its answer, or why it stopped
abbrev pub SaysTask : Task → World → Status → List ℕ → Type 0
SaysTask (Trace arch block prog) w s text =
    SaysOf (AnswersTrace w arch.now block.now prog.now) (StopsTrace w arch.now block.now prog.now) s text
SaysTask (Refute of tree) w s text = SaysOf (AnswersRefute w (words_said of) tree.now) (StopsRefute w (words_said of) tree.now) s text

-- the words are a command, and this is what it says
pub record SaysCommand (words : List (List ℕ)) (w : World) (s : Status) (text : List ℕ) : Type 0 where
  pub task : Task
  pub are : AreWordsOf words task
  pub says : SaysTask task w s text

-- memory ran out, which may come at any words
pub record SaysMemory (s : Status) (text : List ℕ) : Type 0 where
  pub is : s ≡ status.Memory
  pub line : text ≡ memory_text

-- the status has its cause, and this is the text that goes with it
abbrev pub Says : List (List ℕ) → World → Status → List ℕ → Type 0
Says words w s text = SaysCommand words w s text ⊎ (SaysWords words s text ⊎ SaysMemory s text)

-- the sink took the whole text
pub record Printed (words : List (List ℕ)) (w : World) (shown : Shown) (s : Status) : Type 0 where
  pub text : List ℕ
  pub says : Says words w s text
  pub got : shown.got ≡ written text shown.bytes

-- the sink's count of faults rose at the text of some status, and it has a front of the text
pub record CutOff (words : List (List ℕ)) (w : World) (shown : Shown) (s : Status) : Type 0 where
  pub outside : s ≡ status.Outside
  pub failed : SinkFailed shown
  pub meant : Status
  pub text : List ℕ
  pub says : Says words w meant text
  pub got : WrittenPart text shown.bytes shown.got

-- what a run answers
abbrev pub Answers : List (List ℕ) → World → Shown → Status → Type 0
Answers words w shown s = Printed words w shown s ⊎ CutOff words w shown s
