-- What is told of a tree: a status, and one line.
use Rattle.std.specs.Prelude.{◌≡◌, ℕ, List, [], ◌∷◌, ◌++◌, codes}
use Rattle.std.specs.Fmt.{decimal}
use Rattle.tree_verdict.specs.declared.verdict.Verdict.{Verdict}
use Rattle.tree_verdict.specs.declared.verdict.Verdict.TheVariants.{Refutes, Partial, Wrong}
use Rattle.run_base.specs.declared.answer.Answer.{Answer}
use Rattle.run_base.specs.declared.status.Status.{Status}
use Rattle.run_base.specs.declared.status.Status.TheVariants as status

-- a tree that refutes is what the command is for; one with loose nodes leaves the task undecided
abbrev pub verdict_status : Verdict → Status
verdict_status Refutes = status.Done
verdict_status (Partial branches loose) = status.Undecided
verdict_status (Wrong node) = status.Wrong

abbrev pub verdict_text : Verdict → List ℕ
verdict_text Refutes = codes "refutes\n"
verdict_text (Partial branches loose) = codes "partial " ++ (decimal branches ++ 32 ∷ (decimal loose ++ 10 ∷ []))
verdict_text (Wrong node) = codes "wrong " ++ (decimal node ++ 10 ∷ [])

-- the status and the line of the verdict
pub record IsAnswerOf (v : Verdict) (a : Answer) : Type 0 where
  pub status : a.status ≡ verdict_status v
  pub text : a.text.items ≡ verdict_text v
