use Rattle.std.proofs.Common.{◌+◌, ap, sym, ◌∙◌}
use Rattle.task_room.proofs.Tallies.{entry_more}
use Rattle.task_room.proofs.room.with_pin.Goals as goal

pub returns-then-is_entry-clause-tally : goal.returns-then-is_entry-clause-tally
returns-then-is_entry-clause-tally c =
    entry_more c.args.graph.now c.args.task.now c.args.tally c.and.result c.args.pin.0 c.pin_at.result (1 + c.len.result) c.pin_at.ensures.is (sym c.is_entry.ensures ∙ c.if-is_entry.true)
    (c.and.ensures.tally c.args.graph.now c.args.task.now) (ap (λ n. 1 + n) c.len.ensures)
