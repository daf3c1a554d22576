use Rattle.std.proofs.Common.{refl}
use Rattle.prog_map.proofs.Climbs.{root_live, live_below}
use Rattle.prog_map.proofs.live.live_laws.Goals as goal

pub returns-clause-root : goal.returns-clause-root
returns-clause-root c modes = root_live _ modes 0 c.law.ensures refl

pub returns-clause-below : goal.returns-clause-below
returns-clause-below c modes s n to = live_below _ modes s n to c.law.ensures
