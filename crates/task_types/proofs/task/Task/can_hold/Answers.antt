use Rattle.std.proofs.Common.{◌==◌, sym, ap, ◌∙◌}
use Rattle.std.specs.List.{list_any}
use Rattle.pb_expand.specs.declared.number.PbIx.{PbIx}
use Rattle.task_types.proofs.Leaves.{held_nowhere, held_there}
use Rattle.task_types.proofs.task.Task.can_hold.Goals as goal

pub returns-in-None : goal.returns-in-None
returns-in-None c = sym (held_nowhere c.args.self.now c.args.place c.args.leaf.0 (sym c.in-None.ensures.value))

pub returns-in-Some : goal.returns-in-Some
returns-in-Some c =
    c.has_leaf.ensures ∙ ap (λ xs. list_any (λ (pb : PbIx). pb.0 == c.args.leaf.0) xs) c.as_slice.ensures
    ∙ held_there c.args.self.now c.args.place c.args.leaf.0 c.in-Some.leaves.now (sym c.in-Some.ensures.value)
