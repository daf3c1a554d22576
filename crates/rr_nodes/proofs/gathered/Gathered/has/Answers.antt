use Rattle.rr_nodes.proofs.Kept.{told_there}
use Rattle.rr_nodes.proofs.gathered.Gathered.has.Goals as goal

pub returns : goal.returns
returns c =
    told_there c.args.self.now.carried.items c.args.self.now.places.entries c.requires.same c.args.id c.contains_key.result c.contains_key.ensures
