use Rattle.meta_said.proofs.Meaning.{luts_held}
use Rattle.meta_said.proofs.laws.luts_are_held.Goals as goal

pub returns : goal.returns
returns c = luts_held
