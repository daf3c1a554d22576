use Rattle.std.proofs.Common.{ℕ, List, [], get_or, sym, subst}
use Rattle.vtr_base.specs.Lists.{Has}
use Rattle.task_types.specs.declared.task.TaskNet.{TaskNet}
use Rattle.task_nets.proofs.Joins.{next_has}
use Rattle.task_nets.proofs.Told.{AreTold, none_told, told_more}
use Rattle.task_nets.proofs.nets.task_nets.Goals as goal

pub task_net-requires : goal.task_net-requires
task_net-requires c =
    c.requires.there (get_or c.as_slice-numbers.result.now c.loop-number.number-index 0)
    (subst (λ (l : List ℕ). Has l (get_or c.as_slice-numbers.result.now c.loop-number.number-index 0)) c.as_slice-numbers.ensures
    (next_has c.as_slice-numbers.result.now c.loop-number.number-index 0 c.loop-number-test.true))

pub loop-number-init : goal.loop-number-init
loop-number-init c = subst (λ (l : List TaskNet). AreTold c.args.net.now.atoms c.args.atoms.now [] l) (sym c.in_ok-all.ensures.items) (none_told c.args.net.now.atoms c.args.atoms.now)

pub loop-number-preserved : goal.loop-number-preserved
loop-number-preserved c =
    told_more c.args.net.now.atoms c.args.atoms.now c.as_slice-numbers.result.now c.loop-number.all.items c.push.new.self.items c.loop-number.number-index _ c.task_net.result c.loop-number-test.true
    c.task_net.ensures.number c.task_net.ensures.is c.loop-number.invariant c.in_ok-push.ensures.items
