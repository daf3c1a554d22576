use Rattle.rr_places.proofs.Entries.{added}
use Rattle.rr_places.proofs.keyed.add.Goals as goal

pub returns : goal.returns
returns g c = added g.K.PartialEq.eq c.requires.same c.args.map.now c.insert.new.self.entries c.args.key c.args.value c.requires.new c.in_ok-insert.ensures.entries
