use Rattle.std.specs.Prelude.{true, false}
use Rattle.std.proofs.Common.{◌∙◌, ap, Some}
use Rattle.blif_covers.proofs.Tables.{table_on, table_off, known_output}
use Rattle.blif_covers.proofs.cover.Cover.into_table.Goals as goal

pub returns-then-output : goal.returns-then-output
returns-then-output c = λ rows holds.
    table_on c.args.self.inputs rows c.args.self.covered c.args.self.width holds.on
    (known_output rows c.args.self true (c.in-Some.is ∙ ap (λ o. Some o) c.if-output.true) holds)

pub returns-else-output : goal.returns-else-output
returns-else-output c = λ rows holds.
    table_off c.args.self.inputs rows c.args.self.covered c.inverted.result c.args.self.width holds.on
    (known_output rows c.args.self false (c.in-Some.is ∙ ap (λ o. Some o) c.if-output.false) holds) c.inverted.ensures
