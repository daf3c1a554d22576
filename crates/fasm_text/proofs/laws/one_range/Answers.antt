use Rattle.fasm_text.proofs.Fielding.{one_range as one_range_of}
use Rattle.fasm_text.proofs.laws.one_range.Goals as goal

pub returns : goal.returns
returns c = one_range_of
