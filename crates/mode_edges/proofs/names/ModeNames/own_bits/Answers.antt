use Rattle.std.proofs.Common.{subst}
use Rattle.mode_edges.specs.Readers.{NamesBits}
use Rattle.mode_edges.specs.Scopes.{ModeOf}
use Rattle.mode_edges.proofs.names.ModeNames.own_bits.Goals as goal

pub returns : goal.returns
returns c = subst (λ (m : ModeOf). NamesBits m.block.ports c.args.word.now c.bits.result) c.self.view_is c.bits.ensures
