use Rattle.std.proofs.Common.{sym, subst}
use Rattle.task_trail.specs.Decided.{Decided}
use Rattle.search_loop.specs.Writing.{GoesOn}
use Rattle.search_loop.proofs.Paths.{goes_on}
use Rattle.search_loop.proofs.write.put_leaf.Goals as goal

pub returns-clause-goes : goal.returns-clause-goes
returns-clause-goes c =
    subst (λ (d : Decided). GoesOn c.args.graph.now c.args.task.now c.args.trail.now.made d.made c.is_bare.result) (sym c.is_bare.ensures.same)
    (goes_on c.args.graph.now c.args.task.now c.args.trail.now.made c.go_on.new.trail.made c.args.leaf c.is_bare.result c.requires.leaf c.go_on.ensures.stands c.is_bare.ensures.bare)
