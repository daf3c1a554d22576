use Rattle.std.proofs.Common.{Some, sym, ap, ◌∙◌}
use Rattle.task_room.proofs.Tallies.{mode_more, leaf_more, leaf_past}
use Rattle.task_room.proofs.room.with_instance.Goals as goal

pub returns-in-Modes-clause-tally : goal.returns-in-Modes-clause-tally
returns-in-Modes-clause-tally c =
    mode_more c.args.graph.now c.args.task.now c.args.tally c.and.result c.args.pb c.in-Modes.count (c.kind.ensures ∙ ap (λ k. Some k) c.in-Modes.is) (c.and.ensures.tally c.args.graph.now c.args.task.now)

pub returns-in-Leaf-clause-tally : goal.returns-in-Leaf-clause-tally
returns-in-Leaf-clause-tally c =
    leaf_past c.args.graph.now c.args.task.now c.args.tally c.and_some.result c.args.pb c.in-Leaf.field-0 (c.kind.ensures ∙ ap (λ k. Some k) c.in-Leaf.is) (c.and_some.ensures.tally c.args.graph.now c.args.task.now)

pub returns-in-Leaf-2-clause-tally : goal.returns-in-Leaf-2-clause-tally
returns-in-Leaf-2-clause-tally c =
    leaf_more c.args.graph.now c.args.task.now c.args.tally c.and-in-Leaf-2.result c.args.pb c.in-Leaf-2.field-0 c.leaf_options.result (c.kind.ensures ∙ ap (λ k. Some k) c.in-Leaf-2.is)
    (c.and-in-Leaf-2.ensures.tally c.args.graph.now c.args.task.now) (sym c.leaf_options.ensures)
