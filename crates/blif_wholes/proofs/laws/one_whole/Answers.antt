use Rattle.blif_wholes.proofs.Faults.{one_refusal, never_both}
use Rattle.blif_wholes.proofs.laws.one_whole.Goals as goal

pub returns-clause-one : goal.returns-clause-one
returns-clause-one c = one_refusal c.one_fault.ensures

pub returns-clause-never : goal.returns-clause-never
returns-clause-never c = never_both c.one_fault.ensures
