use Rattle.std.proofs.Common.{arith}
use Rattle.elem_text.proofs.Frames.{length-top_first, frame_is, opened_is}
use Rattle.elem_text.proofs.stack.Opened.open.Goals as goal

pub returns-then-len-ge-DEEPEST-clause-deep : goal.returns-then-len-ge-DEEPEST-clause-deep
returns-then-len-ge-DEEPEST-clause-deep c =
    λ _. (c.has_room.ensures.0 c.if-not-has_room.false, omega (arith, length-top_first c.args.self.now.below, c.len.ensures, c.if-len-ge-DEEPEST.true))

pub returns-clause-ok : goal.returns-clause-ok
returns-clause-ok c = (
  c.has_room.ensures.0 c.if-not-has_room.false,
  opened_is c.replace-outer.new.dest _ c.replace-outer.result c.args.self.now.top c.args.self.now.below c.push.new.self
      (frame_is c.in_ok-kept.field-0 c.args.name.now c.args.attrs c.new.result c.new-2.result c.args.place _ c.replace-outer.ensures.after c.in_ok-kept.ensures c.new.ensures c.new-2.ensures)
      c.replace-outer.ensures.value c.in_ok-push.ensures.ok,
)

pub returns-clause-shallow : goal.returns-clause-shallow
returns-clause-shallow c = omega (arith, length-top_first c.args.self.now.below, c.len.ensures, c.if-len-ge-DEEPEST.false)
