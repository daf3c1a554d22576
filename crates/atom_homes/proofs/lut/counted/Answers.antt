use Rattle.std.proofs.lemmas.Bool.{false≢true}
use Rattle.std.proofs.Common.{sym, ◌∙◌}
use Rattle.net_types.specs.Order.{nets_of}
use Rattle.atom_homes.proofs.Different.{known_net, new_net}
use Rattle.atom_homes.proofs.lut.counted.Goals as goal

pub returns-then-has_net-clause-nets : goal.returns-then-has_net-clause-nets
returns-then-has_net-clause-nets c d = known_net (nets_of c.args.conns.now) c.args.net c.args.count (c.has_net.ensures.0 c.if-has_net.true) d

pub returns-clause-nets : goal.returns-clause-nets
returns-clause-nets c d =
    new_net (nets_of c.args.conns.now) c.args.net c.args.count (λ h. false≢true (sym c.if-has_net.false ∙ c.has_net.ensures.1 h)) d
