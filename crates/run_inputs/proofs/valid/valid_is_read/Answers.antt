use Rattle.run_inputs.proofs.Calm.{one_arch, arch_is_read}
use Rattle.run_inputs.proofs.valid.valid_is_read.Goals as goal

pub returns-clause-one : goal.returns-clause-one
returns-clause-one c = one_arch c.laws_of_files.ensures.one

pub returns-clause-read : goal.returns-clause-read
returns-clause-read c = arch_is_read c.laws_of_files.ensures.one c.laws_of_files.ensures.read c.one_reading.ensures
