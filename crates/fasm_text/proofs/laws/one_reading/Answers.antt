use Rattle.fasm_text.proofs.Reading.{one_set, never_refused, one_refusal}
use Rattle.fasm_text.proofs.laws.one_reading.Goals as goal

pub returns-clause-sets : goal.returns-clause-sets
returns-clause-sets c = one_set

pub returns-clause-read : goal.returns-clause-read
returns-clause-read c = never_refused

pub returns-clause-refused : goal.returns-clause-refused
returns-clause-refused c = one_refusal
