use Rattle.std.proofs.Common.{IsSome, refl, sym, subst}
use Rattle.pb_expand.proofs.Lists.{has_at}
use Rattle.pb_expand.proofs.LocalPins.{has_inter, inter_there}
use Rattle.pb_expand.proofs.graph.PbGraph.inter_of.Goals as goal

pub inter_at-requires : goal.inter_at-requires
inter_at-requires c =
    let g = c.args.self.now in
    let e = c.edge-mode.result in
    let is = c.law.ensures.has_edges.each e (has_at g.edges c.args.edge.0 e c.edge-mode.ensures.is) in
    let has = has_inter g e c.block_of.result.now is c.block_of.ensures.is in
    subst (λ o. IsSome o) (sym (inter_there c.block_of.result.now e.mode e.inter has)) refl
