-- What a run at valid inputs answers.
use Rattle.std.specs.Prelude.{◌≡◌, ◌⊎◌, ℕ, List}
use Rattle.run_base.specs.declared.status.Status.{Status}
use Rattle.run_base.specs.declared.status.Status.TheVariants as status
use Rattle.run_base.specs.Worlds.{World, Shown, SinkFailed}
use Rattle.cmd_trace.specs.Valid.{IsValid}
use Rattle.cmd_refute.specs.Valid as refute
use Rattle.run_tasks.specs.Words.{words_said}
use Rattle.vtr_top.specs.declared.table.Task.{Task}
use Rattle.vtr_top.specs.declared.table.Task.TheVariants.{Trace, Refute}
use Rattle.vtr_top.specs.Table.{AreWordsOf}

-- the inputs of a command are valid
abbrev pub IsValidTask : Task → World → Type 0
IsValidTask (Trace arch block prog) w = IsValid w arch.now block.now prog.now
IsValidTask (Refute of tree) w = refute.IsValid w (words_said of) tree.now

-- the words are a command, and its inputs are valid
pub record IsValidRun (words : List (List ℕ)) (w : World) : Type 0 where
  pub task : Task
  pub are : AreWordsOf words task
  pub valid : IsValidTask task w

-- with which statuses a command ends that doesn't stop
abbrev pub IsEndOf : Task → Status → Type 0
IsEndOf (Trace arch block prog) s = s ≡ status.Done
IsEndOf (Refute of tree) s = (s ≡ status.Done) ⊎ ((s ≡ status.Undecided) ⊎ (s ≡ status.Wrong))

-- the command ended, or memory ran out
abbrev pub EndsOrMemory : Task → Status → Type 0
EndsOrMemory task s = IsEndOf task s ⊎ (s ≡ status.Memory)

-- the same, or the sink's count of faults rose while the text was put
abbrev pub Completes : Task → Shown → Status → Type 0
Completes task shown s = EndsOrMemory task s ⊎ ((s ≡ status.Outside) × SinkFailed shown)
