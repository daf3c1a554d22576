use Rattle.std.proofs.Common.{take}
use Rattle.meta_lines.specs.Each.{Each}
use Rattle.loc_prefixes.specs.Singles.{SaysSingle}
use Rattle.loc_prefixes.proofs.singles.read_singles.Given as goal

abbrev pub invariant-loop-number : goal.invariant-loop-number
invariant-loop-number l = Each (SaysSingle l.tiles) (take l.number l.singles) l.said.items
