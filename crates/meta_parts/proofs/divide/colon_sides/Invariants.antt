use Rattle.std.proofs.Common.{take}
use Rattle.meta_parts.proofs.Siding.{IsPassed}
use Rattle.meta_parts.proofs.divide.colon_sides.Given as goal

abbrev pub invariant-loop-at : goal.invariant-loop-at
invariant-loop-at l = IsPassed (take l.at l.line) l.inside
