use Rattle.prog_text.proofs.Written.{edge_mode_there}
use Rattle.prog_text.proofs.line.put_pick.Goals as goal

pub mode_name-requires-clause-mode : goal.mode_name-requires-clause-mode
mode_name-requires-clause-mode c = edge_mode_there _ _ c.edge-edge.result c.law.ensures c.edge-edge.ensures.is
