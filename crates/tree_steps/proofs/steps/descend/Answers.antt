use Rattle.tree_steps.proofs.Path.{var_inside}
use Rattle.tree_steps.proofs.Onward.{first_free}
use Rattle.tree_steps.proofs.steps.descend.Goals as goal

pub first_option-requires : goal.first_option-requires
first_option-requires c = var_inside c.args.graph.now c.args.task.now c.args.trail.now.made c.args.var c.law.ensures c.requires.branch.1.live

pub decide-requires : goal.decide-requires
decide-requires c =
    first_free c.args.graph.now c.args.task.now c.args.trail.now c.requires.path c.args.var c.requires.branch c.in-Some.first c.law.ensures c.one_owner.ensures
    c.requires.instances c.requires.pins c.requires.atoms (c.in-Some.ensures c.args.task.now c.args.trail.now.made)
