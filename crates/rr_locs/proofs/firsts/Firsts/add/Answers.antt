use Rattle.rr_locs.proofs.Starts.{adds_first}
use Rattle.rr_locs.proofs.firsts.Firsts.add.Goals as goal

pub returns : goal.returns
returns c = adds_first c.args.self.now (record { by_spot = c.insert.new.self }) c.args.x c.args.y c.args.number c.in_ok-insert.ensures.updates.0
