use Rattle.prog_map.proofs.LookUps.{sets_mode, sets_pick, sets_used, sets_lut}
use Rattle.prog_map.proofs.laws.setting_laws.Goals as goal

pub returns : goal.returns
returns c = record { mode = sets_mode; pick = sets_pick; uses = sets_used; lut = sets_lut }
