-- The exit statuses.
use Rattle.std.specs.Prelude.{ℕ}
use Rattle.run_base.specs.declared.status.Status.{Status}
use Rattle.run_base.specs.declared.status.Status.TheVariants.{Done, Words, Refused, Outside, Memory, Refuted, Undecided, Confusable, NoBlock, NoRoom, Blocked, Congested, Illegal, Unknown, Wrong}
use Rattle.run_base.specs.declared.stop.Stop.{Stop}
use Rattle.run_base.specs.declared.stop.Stop.TheVariants as stop

abbrev pub code_of : Status → ℕ
code_of Done = 0
code_of Words = 2
code_of Refused = 3
code_of Outside = 4
code_of Memory = 5
code_of Refuted = 10
code_of Undecided = 11
code_of Confusable = 12
code_of NoBlock = 13
code_of NoRoom = 14
code_of Blocked = 15
code_of Congested = 16
code_of Illegal = 17
code_of Unknown = 18
code_of Wrong = 19

-- the status of a run that stops so
abbrev pub status_of : Stop → Status
status_of (stop.Refused name why) = Refused
status_of (stop.Outside name) = Outside
status_of stop.Memory = Memory
