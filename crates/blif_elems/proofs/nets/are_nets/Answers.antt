use Rattle.std.proofs.Common.{◌↔◌, IsTrue, rules}
use Rattle.std.specs.List.{All}
use Rattle.blif_elems.specs.Nets.{IsNet}
use Rattle.blif_elems.proofs.Naming.{by_texts}
use Rattle.blif_elems.proofs.nets.are_nets.Goals as goal

pub returns : goal.returns
returns c =
    let each : IsTrue c.all.result ↔ All (λ w. IsNet w.now) c.args.names.now = search rules in
    by_texts c.all.result c.args.names.now each
