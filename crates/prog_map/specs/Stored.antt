-- The choices that a programming's maps say.
use Rattle.std.specs.FinMap as map
use Rattle.std.specs.FinSet as set
use Rattle.prog_map.specs.declared.prog.Prog.TheInside.{Inside}
use Rattle.prog_map.specs.Choices.{Choices, choices_at}

abbrev pub choices_of : Inside → Choices
choices_of p =
    choices_at (map.from_entries p.modes.entries) (map.from_entries p.picks.entries) (set.from_list p.leaves.keys) (map.from_entries p.luts.entries)
