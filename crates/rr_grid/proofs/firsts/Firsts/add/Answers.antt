use Rattle.rr_grid.proofs.Kept.{adds_first}
use Rattle.rr_grid.proofs.firsts.Firsts.add.Goals as goal

pub returns : goal.returns
returns c =
    adds_first c.args.self.now (record { by_spot = c.insert.new.self }) c.args.index c.args.place c.contains_key.result c.contains_key.ensures
    c.if-contains_key.false c.in_ok-insert.ensures.updates.0
