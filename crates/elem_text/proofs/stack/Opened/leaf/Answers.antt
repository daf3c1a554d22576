use Rattle.std.proofs.Common.{arith}
use Rattle.elem_text.proofs.Frames.{length-top_first}
use Rattle.elem_text.proofs.stack.Opened.leaf.Goals as goal

pub returns-then-len-ge-DEEPEST-clause-deep : goal.returns-then-len-ge-DEEPEST-clause-deep
returns-then-len-ge-DEEPEST-clause-deep c =
    λ _. (c.has_room.ensures.0 c.if-not-has_room.false, omega (arith, length-top_first c.args.self.now.below, c.len.ensures, c.if-len-ge-DEEPEST.true))

pub returns-clause-shallow : goal.returns-clause-shallow
returns-clause-shallow c = omega (arith, length-top_first c.args.self.now.below, c.len.ensures, c.if-len-ge-DEEPEST.false)
