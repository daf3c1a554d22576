use Rattle.std.proofs.Common.{sym}
use Rattle.node_crowd.proofs.Ways.{walk_on}
use Rattle.node_crowd.proofs.blocked.passes.Goals as goal

pub returns-clause-on : goal.returns-clause-on
returns-clause-on c at is walk =
    walk_on c.args.graph.now c.args.net.now.atoms c.args.task.now c.args.trail.now.made c.args.need c.args.listed.now.items c.args.reached.now.items c.put_steps.new.reached.items at c.args.pin.0 is
    (λ has. let bad : ⊥ = cc (sym c.if-contains.false, c.contains.ensures.1 has) in bad)
    (λ start. let bad : ⊥ = cc (sym c.if-may_start.false, c.may_start.ensures.1 start) in bad)
    c.put_steps.ensures.gains walk
