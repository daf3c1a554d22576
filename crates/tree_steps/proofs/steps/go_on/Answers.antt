use Rattle.std.proofs.Common.{◌++◌, sym, subst}
use Rattle.task_types.specs.Trees.{under}
use Rattle.tree_steps.specs.Owing.{StandsAt, IsEntered}
use Rattle.tree_steps.proofs.Onward.{entered}
use Rattle.tree_steps.proofs.steps.go_on.Goals as goal

pub returns-in-Branch-clause-stands : goal.returns-in-Branch-clause-stands
returns-in-Branch-clause-stands c todo owes =
    let branch = subst (λ n. IsEntered c.args.graph.now c.args.task.now c.args.trail.now.made n) c.in-Branch.is c.requires.entered in
    subst (λ n. StandsAt c.args.graph.now c.args.task.now c.descend.new.trail.made (under c.args.graph.now c.args.task.now c.args.trail.now.made n ++ todo)) (sym c.in-Branch.is)
    (entered c.args.graph.now c.args.task.now c.args.trail.now.made c.descend.new.trail.made c.in-Branch.var c.in-Branch.kids todo branch.0 branch.1 c.descend.ensures.first owes)
