use Rattle.lut_fields.proofs.Places.{all_say}
use Rattle.lut_fields.proofs.laws.owners_say.Goals as goal

pub returns : goal.returns
returns c = all_say
