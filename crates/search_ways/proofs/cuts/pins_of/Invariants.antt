use Rattle.std.proofs.Common.{◌≡◌, map, take}
use Rattle.pb_expand.specs.Graph.{pin_ix}
use Rattle.search_ways.proofs.cuts.pins_of.Given as goal

abbrev pub invariant-loop-number : goal.invariant-loop-number
invariant-loop-number l = l.pins.items ≡ map pin_ix (take l.number-index l.numbers)
