use Rattle.std.proofs.Common.{ap}
use Rattle.blif_elems.specs.Seen.{said}
use Rattle.blif_drafts.proofs.Changed.{for_said}
use Rattle.blif_drafts.proofs.draft.Draft.add.Goals as goal

pub returns-in-Inputs-clause-refused : goal.returns-in-Inputs-clause-refused
returns-in-Inputs-clause-refused c =
    for_said c.add_inputs.result c.args.models.now c.args.self.now (said c.args.statement.now) _ c.args.place (ap said c.in-Inputs.is) c.add_inputs.ensures.refused

pub returns-in-Outputs-clause-refused : goal.returns-in-Outputs-clause-refused
returns-in-Outputs-clause-refused c =
    for_said c.add_outputs.result c.args.models.now c.args.self.now (said c.args.statement.now) _ c.args.place (ap said c.in-Outputs.is) c.add_outputs.ensures.refused

pub returns-in-Names-clause-refused : goal.returns-in-Names-clause-refused
returns-in-Names-clause-refused c =
    for_said c.add_names.result c.args.models.now c.args.self.now (said c.args.statement.now) _ c.args.place (ap said c.in-Names.is) c.add_names.ensures.refused

pub returns-in-Latch-clause-refused : goal.returns-in-Latch-clause-refused
returns-in-Latch-clause-refused c =
    for_said c.add_latch.result c.args.models.now c.args.self.now (said c.args.statement.now) _ c.args.place (ap said c.in-Latch.is) c.add_latch.ensures.refused

pub returns-in-Param-clause-refused : goal.returns-in-Param-clause-refused
returns-in-Param-clause-refused c =
    for_said c.add_param.result c.args.models.now c.args.self.now (said c.args.statement.now) _ c.args.place (ap said c.in-Param.is) c.add_param.ensures.refused

pub returns-in-Row-clause-refused : goal.returns-in-Row-clause-refused
returns-in-Row-clause-refused c =
    for_said c.add_row.result c.args.models.now c.args.self.now (said c.args.statement.now) _ c.args.place (ap said c.in-Row.is) c.add_row.ensures.refused
