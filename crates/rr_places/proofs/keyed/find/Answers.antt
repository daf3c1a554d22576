use Rattle.rr_places.proofs.Entries.{found}
use Rattle.rr_places.proofs.keyed.find.Goals as goal

pub returns : goal.returns
returns g c = found g.K.PartialEq.eq c.requires c.args.map.now.entries c.args.key c.get.result c.get.ensures.value
