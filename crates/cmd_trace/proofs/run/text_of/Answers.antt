use Rattle.cmd_trace.proofs.Completed.{refused_for_memory}
use Rattle.cmd_trace.proofs.run.text_of.Goals as goal

pub returns-in-Err-clause-complete : goal.returns-in-Err-clause-complete
returns-in-Err-clause-complete c choices spells =
    refused_for_memory c.args.graph.now c.args.prog.now c.args.bytes.now choices c.in-Err.error c.refused_by.result (c.laws_of_the_text.ensures.read c.requires) spells
    c.in-Err.ensures.refused c.refused_by.ensures
