use Rattle.rr_grid.proofs.OneReading.{one_grid, one_refusal, never_both}
use Rattle.rr_grid.proofs.laws.one_reading.Goals as goal

pub returns-clause-places : goal.returns-clause-places
returns-clause-places c = λ known es ps qs p q. one_grid c.one_item.ensures.place known es ps qs p q

pub returns-clause-refusal : goal.returns-clause-refusal
returns-clause-refusal c = λ known es d e p q. one_refusal c.one_item.ensures.place known es d e p q

pub returns-clause-never_both : goal.returns-clause-never_both
returns-clause-never_both c = λ known es ps e p r. never_both c.one_item.ensures.place known es ps e p r
