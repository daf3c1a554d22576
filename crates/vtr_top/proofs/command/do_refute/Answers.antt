use Rattle.vtr_top.proofs.Said.{said_of}
use Rattle.vtr_top.proofs.Completed.{ends_or_memory, refute_ends}
use Rattle.vtr_top.proofs.command.do_refute.Goals as goal

pub returns-clause-says : goal.returns-clause-says
returns-clause-says g c = said_of _ _ c.refute.result c.said.result c.refute.ensures.answer c.refute.ensures.stopped c.said.ensures

pub returns-clause-complete : goal.returns-clause-complete
returns-clause-complete g c valid =
    ends_or_memory _ _ c.refute.result c.said.result (λ s text answers. refute_ends _ _ _ s text answers) c.refute.ensures.answer (c.refute.ensures.complete valid) c.said.ensures
