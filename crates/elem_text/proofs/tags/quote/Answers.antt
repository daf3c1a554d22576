use Rattle.elem_text.proofs.Flawed.{quote_ended}
use Rattle.elem_text.proofs.tags.quote.Goals as goal

pub returns-clause-flaw : goal.returns-clause-flaw
returns-clause-flaw c = quote_ended _ c.in_default.ensures c.in_default-byte.ensures _ c.ended.ensures
