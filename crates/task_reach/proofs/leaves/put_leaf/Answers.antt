use Rattle.std.proofs.Common.{◌≡◌}
use Rattle.task_reach.specs.Reached.{IsOpenLeaf}
use Rattle.task_reach.proofs.Growing.{gains_one, gains_like}
use Rattle.task_reach.proofs.leaves.put_leaf.Goals as goal

pub returns-then-is_open_to-clause-gains : goal.returns-then-is_open_to-clause-gains
returns-then-is_open_to-clause-gains c =
    gains_like c.args.leaves.now.items c.insert.new.self.items (λ q. q ≡ c.args.leaf.0) (IsOpenLeaf c.args.graph.now c.args.task.now c.args.trail.now.made c.args.place c.args.leaf.0)
    (gains_one c.args.leaves.now c.insert.new.self c.args.leaf.0 c.insert.result c.insert.ensures)
    (λ q is. record { open' = c.is_open_to.ensures.0 c.if-is_open_to.true; same = is })
    (λ q open'. open'.same)
