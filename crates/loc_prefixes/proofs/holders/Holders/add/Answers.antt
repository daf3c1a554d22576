use Rattle.loc_prefixes.proofs.Holding.{adds_holder}
use Rattle.loc_prefixes.proofs.holders.Holders.add.Goals as goal

pub returns : goal.returns
returns c = adds_holder c.args.self.now (record { by_spot = c.insert.new.self }) c.args.x c.args.y c.args.place c.in_ok-insert.ensures.updates.0
