-- The room that a check of trees takes, and how it is told.
use Rattle.std.specs.Prelude.{ℕ, List, [], length}
use Rattle.pb_expand.specs.Graph.{Graph}
use Rattle.task_types.specs.declared.task.Task.{Task}
use Rattle.task_types.specs.declared.decision.Decision.{Decision}
use Rattle.sparse_set.specs.Sets.{held_on}
use Rattle.task_trail.specs.Decided.{Decided, decided_on}
use Rattle.refute_check.specs.declared.marks.Marks.{Marks}

-- for so many instances, pins, atoms and nets
pub record Room : Type 0 where
  pub instances : ℕ
  pub pins : ℕ
  pub atoms : ℕ
  pub nets : ℕ

abbrev pub room_of : Graph → Task → Room
room_of g t = record { instances = length g.instances; pins = length g.pins; atoms = length t.atoms; nets = length t.nets }

-- empty sets with that room
abbrev pub marks_on : Room → Marks
marks_on room = record { atoms = held_on [] room.atoms; leaves = held_on [] room.instances; nets = held_on [] room.nets; pins = held_on [] room.pins; reached = held_on [] room.pins }

abbrev pub marks_of : Graph → Task → Marks
marks_of g t = marks_on (room_of g t)

-- what was decided, over the graph and the task
abbrev pub trail_of : Graph → Task → List Decision → Decided
trail_of g t made = decided_on made (length g.instances) (length g.pins) (length t.atoms)
