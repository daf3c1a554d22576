use Rattle.std.proofs.Common.{◌≡◌, take}
use Rattle.number_places.proofs.numbers.Numbers.ascending.Given as goal

abbrev pub invariant-loop-number : goal.invariant-loop-number
invariant-loop-number l = l.numbers ≡ take l.number-index l.number-items
