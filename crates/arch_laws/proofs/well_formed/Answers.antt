use Rattle.arch_laws.proofs.Whole.{well_formed_is}
use Rattle.arch_laws.proofs.well_formed.Goals as goal

pub returns : goal.returns
returns c = well_formed_is c.args.root.now c.args.arch.now c.requires.fine c.requires.says c.requires.linked c.requires.utf8 c.requires.few
