-- The pairs and rows are those of the reduction.
use Rattle.std.proofs.Common.{arith, ap, inl, refl, length}
use Rattle.crowd_cuts.proofs.ReductionLemmas.{rows_within, pairs_within, length-rows_of, between_from_all, nodes_from_all, reduced}
use Rattle.crowd_cuts.proofs.placing.unpassed.Goals as goal

pub new-requires-clause-rows : goal.new-requires-clause-rows
new-requires-clause-rows c = rw c.in_ok-rows.ensures (rows_within c.args.graph.now.nodes c.args.count)

pub new-requires-clause-pairs : goal.new-requires-clause-pairs
new-requires-clause-pairs c = rw c.in_ok-pairs.ensures (pairs_within _ _ _ _ c.requires.edges c.requires.starts c.requires.ends)

pub new-requires-clause-few_lefts : goal.new-requires-clause-few_lefts
new-requires-clause-few_lefts c =
    let size = length-rows_of c.args.graph.now.nodes c.args.count in
    let same = ap length c.in_ok-rows.ensures in
    omega (arith, size, same, c.requires.few, c.requires.count, c.in_ok-rows.rows.ok.0)

pub put-requires-clause-joined : goal.put-requires-clause-joined
put-requires-clause-joined c =
    let is = reduced _ _ c.args.starts.now _ c.args.count (between_from_all _ _ c.requires.edges) (nodes_from_all _ _ c.requires.ends) in
    rw c.loop-node.invariant.graph (is.joined c.loop-node.node c.loop-node.node (omega arith) (inl (omega arith, refl)))

pub returns : goal.returns
returns c = rw c.loop-node.invariant.graph (reduced _ _ _ _ _ (between_from_all _ _ c.requires.edges) (nodes_from_all _ _ c.requires.ends))
