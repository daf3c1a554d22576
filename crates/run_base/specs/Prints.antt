-- What is printed, and what a sink gets of it.
use Rattle.std.specs.Prelude.{◌≡◌, ◌⊎◌, ◌+◌, ◌++◌, ◌∷◌, [], ℕ, List, Result, Ok, Err, codes}
use Rattle.std.specs.Fmt.{decimal}
use Rattle.vtr_base.specs.Outside.{written, WrittenPart}
use Rattle.run_base.specs.declared.answer.Answer.{Answer}
use Rattle.run_base.specs.declared.status.Status.{Status}
use Rattle.run_base.specs.declared.status.Status.TheVariants as status
use Rattle.run_base.specs.declared.stop.Stop.{Stop}
use Rattle.run_base.specs.declared.stop.Stop.TheVariants.{Refused, Outside, Memory}
use Rattle.run_base.specs.Statuses.{status_of}
use Rattle.run_base.specs.Worlds.{Shown, SinkFailed}

-- the line of the word at that place, counted from 0, which can't stand
abbrev pub words_text : ℕ → List ℕ
words_text place = codes "words " ++ (decimal (place + 1) ++ 10 ∷ [])

abbrev pub memory_text : List ℕ
memory_text = codes "memory\n"

-- the line that says why a run stopped
abbrev pub stop_text : Stop → List ℕ
stop_text (Refused name why) = name ++ (codes ": refused " ++ (why ++ 10 ∷ []))
stop_text (Outside name) = codes "outside " ++ (name ++ 10 ∷ [])
stop_text Memory = memory_text

-- a run stopped for such a cause, and the text says which
pub record SaysStop (Stops : Stop → Type 0) (s : Status) (text : List ℕ) : Type 0 where
  pub why : Stop
  pub cause : Stops why
  pub is : s ≡ status_of why
  pub line : text ≡ stop_text why

-- what a run says: its command's answer, or why it stopped
abbrev pub SaysOf : (Status → List ℕ → Type 0) → (Stop → Type 0) → Status → List ℕ → Type 0
SaysOf Answers Stops s text = Answers s text ⊎ SaysStop Stops s text

-- the status and the text of an outcome: those of its answer, or those of its stop
abbrev pub IsSaidOf : Result Answer Stop → Answer → Type 0
IsSaidOf (Ok answer) said = (said.status ≡ answer.status) × (said.text.items ≡ answer.text.items)
IsSaidOf (Err stop) said = (said.status ≡ status_of stop) × (said.text.items ≡ stop_text stop)

-- what a put of a status's text answers: the status, or `Outside` where the sink's count of faults
-- rose, and then the sink has a front of the text
abbrev pub Puts : Shown → List ℕ → Status → Status → Type 0
Puts shown text s result =
    ((result ≡ s) × (shown.got ≡ written text shown.bytes))
    ⊎ ((result ≡ status.Outside) × SinkFailed shown × WrittenPart text shown.bytes shown.got)
