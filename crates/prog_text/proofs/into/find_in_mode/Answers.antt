use Rattle.std.proofs.Common.{arith}
use Rattle.prog_text.proofs.Wanted.{none_in_mode}
use Rattle.prog_text.proofs.into.find_in_mode.Goals as goal

pub returns : goal.returns
returns c =
    none_in_mode _ c.edges_into-edge-items.result.now c.loop-edge.edge-index _ _ _ _ c.edges_into-edge-items.ensures
    (λ below. omega (arith, below, c.loop-edge-test.false, c.loop-edge.auto.edge-index-end)) c.loop-edge.invariant
