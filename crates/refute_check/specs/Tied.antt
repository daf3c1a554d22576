-- Between two checks nothing is decided or marked.
use Rattle.std.specs.Prelude.{◌≡◌, []}
use Rattle.task_trail.specs.Decided.{decided_on}
use Rattle.refute_check.specs.declared.scratch.Scratch.TheInside.{Inside}
use Rattle.refute_check.specs.Rooms.{Room, marks_on}

abbrev pub room_in : Inside → Room
room_in s = record { instances = s.trail.instances; pins = s.trail.pins; atoms = s.trail.atoms; nets = s.marks.nets.room }

pub record IsAtRest (s : Inside) : Type 0 where
  pub trail : s.trail ≡ decided_on [] s.trail.instances s.trail.pins s.trail.atoms
  pub marks : s.marks ≡ marks_on (room_in s)
