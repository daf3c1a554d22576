use Rattle.mode_edges.proofs.Meanings.{no_own_port}
use Rattle.mode_edges.proofs.names.named_own.Goals as goal

pub returns-in_default : goal.returns-in_default
returns-in_default c = no_own_port c.args.names.now.block c.args.role c.args.word.now c.in_default.ensures
