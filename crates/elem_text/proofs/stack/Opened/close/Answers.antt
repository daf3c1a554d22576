use Rattle.elem_text.proofs.Frames.{closes_name, closed_is}
use Rattle.elem_text.proofs.stack.Opened.close.Goals as goal

pub returns-clause-ok : goal.returns-clause-ok
returns-clause-ok c = (
  closes_name c.args.self.now.top c.in-Some.outer c.args.self.now.below c.pop.new.self _ c.in-Some.ensures (c.is.ensures.0 c.if-not-is.false),
  closed_is c.replace-inner.new.dest c.in-Some.outer c.replace-inner.result c.args.self.now.top c.args.self.now.below c.pop.new.self c.push.new.self
      c.in-Some.ensures c.replace-inner.ensures.value c.replace-inner.ensures.after c.in_ok-push.ensures.ok,
)
