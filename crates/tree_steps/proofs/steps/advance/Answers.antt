use Rattle.std.proofs.Common.{ap, subst}
use Rattle.task_types.specs.Options.{options}
use Rattle.task_trail.specs.Decided.{Decided}
use Rattle.task_options.specs.Choosing.{IsNextIn, var_of}
use Rattle.tree_steps.proofs.Onward.{next_free, advanced, gone_back}
use Rattle.tree_steps.proofs.steps.advance.Goals as goal

pub decide-requires : goal.decide-requires
decide-requires c =
    let new = c.take_back.new.self in
    next_free c.args.graph.now c.args.task.now c.args.trail.now c.loop-last.trail new c.in-Some.last c.loop-last.invariant c.in-Some.ensures c.in-Some-next_option.next c.law.ensures c.one_owner.ensures
    c.requires.instances c.requires.pins c.requires.atoms c.in-Some-next_option.ensures

pub returns-in-Some-next_option-clause-advances : goal.returns-in-Some-next_option-clause-advances
returns-in-Some-next_option-clause-advances c =
    let new = c.take_back.new.self in
    advanced c.args.graph.now c.args.task.now c.args.trail.now c.loop-last.trail new c.in-Some.last c.loop-last.invariant c.in-Some.ensures c.in-Some-next_option.next c.decide.new.self.made
    (ap (λ (d : Decided). d.made) c.decide.ensures) c.in-Some-next_option.ensures

pub loop-last-preserved : goal.loop-last-preserved
loop-last-preserved c =
    let new = c.take_back.new.self in
    gone_back c.args.graph.now c.args.task.now c.args.trail.now c.loop-last.trail new c.in-Some.last c.loop-last.invariant c.in-Some.ensures
    (subst (λ o. IsNextIn (options c.args.graph.now c.args.task.now new.made (var_of c.in-Some.last)) c.in-Some.last o) c.in_default-next_option.is c.next_option.ensures)
