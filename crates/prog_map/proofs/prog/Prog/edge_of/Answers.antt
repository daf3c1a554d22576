use Rattle.std.proofs.Common.{ap, sym}
use Rattle.prog_map.proofs.Maps.{pick_is}
use Rattle.prog_map.proofs.prog.Prog.edge_of.Goals as goal

pub returns-in-Some : goal.returns-in-Some
returns-in-Some c =
    pick_is c.self.inside.picks c.args.self.now c.args.pin.0 c.args.mode _ (ap (λ v. v.picks) (sym c.self.view_is)) c.in-Some.ensures.value

pub returns-in-None : goal.returns-in-None
returns-in-None c =
    pick_is c.self.inside.picks c.args.self.now c.args.pin.0 c.args.mode _ (ap (λ v. v.picks) (sym c.self.view_is)) c.in-None.ensures.value
