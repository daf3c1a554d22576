use Rattle.lut_fields.proofs.Places.{all_say}
use Rattle.lut_fields.proofs.Widths.{field_fits}
use Rattle.lut_fields.proofs.laws.fields_fit.Goals as goal

pub returns : goal.returns
returns c = λ block saids all. field_fits c.one_owner.ensures block (all_say block saids all)
