use Rattle.std.proofs.Common.{List, ℕ, refl, subst}
use Rattle.task_types.specs.Nets.{NetSaid}
use Rattle.task_types.specs.declared.task.TaskNet.{TaskNet}
use Rattle.task_needs.specs.Plain.{AreNeeds}
use Rattle.task_rules.specs.Joined.{AreNetsOf}
use Rattle.task_make.specs.Lists.{AreAtoms}
use Rattle.task_make.proofs.Making.{nets_made, task_made}
use Rattle.task_make.proofs.task.task_of.Goals as goal

pub returns-clause-task : goal.returns-clause-task
returns-clause-task c =
    task_made c.args.graph.now c.args.net.now.atoms c.args.atoms.now c.in_ok-numbers.numbers _ c.block.ensures c.in_ok-from_slice.ensures c.in_ok-listed.ensures.few
    (subst (λ (n : NetSaid). AreAtoms n c.args.atoms.now) c.atoms.ensures c.in_ok-listed.ensures.fine)
    (subst (λ (l : List ℕ). AreNetsOf c.args.net.now.atoms l c.in_ok-nets.nets) c.in_ok-listed.ensures.same
    (nets_made c.args.net.now.atoms c.in_ok-listed.listed c.in_ok-numbers.numbers c.in_ok-nets.nets c.in_ok-numbers.ensures.order c.in_ok-numbers.ensures.each c.in_ok-nets.ensures.numbers c.in_ok-nets.ensures.each))
    c.in_ok-nets.ensures.numbers (subst (λ (l : List TaskNet). AreNeeds c.args.net.now.atoms c.args.atoms.now c.in_ok-numbers.numbers l c.in_ok-needs.needs) c.as_slice.ensures c.in_ok-needs.ensures) c.in_ok-homes.ensures refl
