use Rattle.std.proofs.Common.{inr}
use Rattle.blif_elems.specs.Seen.{texts}
use Rattle.blif_covers.specs.Seen.{row_seen}
use Rattle.blif_items.proofs.Mixing.{mixed_row}
use Rattle.blif_items.proofs.rows.put_row.Goals as goal

pub returns-then-not-takes-clause-refused : goal.returns-then-not-takes-clause-refused
returns-then-not-takes-clause-refused c = inr (λ rows holds.
    mixed_row c.args.cover.now.inputs c.inputs.result rows c.args.name.now c.in_ok-net.net (texts c.args.words.now) c.args.place (row_seen c.in-Some.row) c.takes.result c.inputs.ensures c.in_ok-net.ensures c.in-Some.ensures
    c.if-not-takes.true (c.takes.ensures rows holds))
