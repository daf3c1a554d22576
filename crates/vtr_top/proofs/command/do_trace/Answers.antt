use Rattle.vtr_top.proofs.Said.{said_of}
use Rattle.vtr_top.proofs.Completed.{ends_or_memory}
use Rattle.vtr_top.proofs.command.do_trace.Goals as goal

pub returns-clause-says : goal.returns-clause-says
returns-clause-says g c = said_of _ _ c.trace.result c.said.result c.trace.ensures.answer c.trace.ensures.stopped c.said.ensures

pub returns-clause-complete : goal.returns-clause-complete
returns-clause-complete g c valid = ends_or_memory _ _ c.trace.result c.said.result (λ s text answers. answers.0) c.trace.ensures.answer (c.trace.ensures.complete valid) c.said.ensures
