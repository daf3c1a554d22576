use Rattle.blif_phases.proofs.OneStep.{one_stop, never}
use Rattle.blif_phases.proofs.laws.one_reading.Goals as goal

pub returns-clause-stops : goal.returns-clause-stops
returns-clause-stops c = one_stop c.one_reading.ensures.words c.one_reading-2.ensures.says c.one_reading-2.ensures.never c.one_reading-2.ensures.fault

pub returns-clause-never : goal.returns-clause-never
returns-clause-never c = never c.one_reading.ensures.words c.one_reading-2.ensures.says c.one_reading-2.ensures.never
