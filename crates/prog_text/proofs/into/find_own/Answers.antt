use Rattle.prog_text.proofs.Wanted.{no_own_mode, own_by_mode}
use Rattle.prog_text.proofs.into.find_own.Goals as goal

pub returns-in-None : goal.returns-in-None
returns-in-None c = no_own_mode _ _ _ _ _ c.in-None.ensures

pub returns-in-Some : goal.returns-in-Some
returns-in-Some c = own_by_mode _ _ _ _ _ _ c.requires.of.plain c.in-Some.ensures _ c.find_in_mode.ensures
