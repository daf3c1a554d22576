-- The realisation in which nothing is chosen.
use Rattle.std.specs.Prelude.{[]}
use Rattle.prog_map.specs.Choices.{no_choices}
use Rattle.task_types.specs.declared.real.Real.{Real}

-- no choices, no homes, and no net comes in
abbrev pub empty_real : Real
empty_real = record { prog = no_choices; homes = []; entries = [] }
