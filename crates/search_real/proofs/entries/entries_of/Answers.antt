use Rattle.std.proofs.Common.{sym, subst}
use Rattle.search_real.specs.Entered.{AreEntered}
use Rattle.search_real.proofs.Entering.{fixed_entered, ok_of}
use Rattle.search_real.proofs.entries.entries_of.Goals as goal

pub returns-in-Fixed : goal.returns-in-Fixed
returns-in-Fixed c =
    let Holds = AreEntered c.args.graph.now c.args.task.now c.args.trail.now.made in
    ok_of c.from_slice.result c.as_slice.result.now Holds c.from_slice.ensures
    (subst Holds (sym c.as_slice.ensures) (fixed_entered c.args.graph.now c.args.task.now c.args.trail.now.made c.in-Fixed.fixed c.in-Fixed.is c.requires.task c.requires.entries))
