-- What is collected from a range.
use Rattle.std.proofs.Common.{◌∙◌, refl, arith}
use Rattle.std.proofs.lemmas.Iterator.{YieldsList-from_range, items_from_collect}
use Rattle.crowd_cuts.proofs.flow.all_nodes.Goals as goal

pub returns : goal.returns
returns c =
    let all = items_from_collect c.collect.result c.collect.ensures.ran (YieldsList-from_range 0 c.args.nodes c.args.nodes refl (omega arith)) in
    c.from_vec.ensures ∙ (rw c.in_ok-nodes.was at all)
