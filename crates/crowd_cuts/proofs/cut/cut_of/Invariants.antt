-- The cut is made of the numbers that were passed.
use Rattle.std.proofs.Common.{◌≡◌, take}
use Rattle.crowd_cuts.specs.Reduction.{unmarked}
use Rattle.crowd_cuts.proofs.cut.cut_of.Given as goal

abbrev pub invariant-loop-right : goal.invariant-loop-right
invariant-loop-right l = l.cut.items ≡ unmarked l.nodes l.marks.items (take l.right-index l.rights)
