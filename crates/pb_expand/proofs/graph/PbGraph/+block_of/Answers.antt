use Rattle.std.proofs.Common.{◌≡◌, Some, sym, ◌∙◌, subst}
use Rattle.pb_expand.specs.Graph.{Graph, block_at}
use Rattle.pb_expand.specs.Tied.{graph_of}
use Rattle.pb_expand.specs.Expansion.{IsExpansion}
use Rattle.pb_expand.proofs.RowLemmas.{root_first}
use Rattle.pb_expand.proofs.Blocks.{child_there, block_below, root_block}
use Rattle.pb_expand.proofs.graph.PbGraph.+block_of.Goals as goal

pub child_below-requires : goal.child_below-requires
child_below-requires t c =
    let law = subst (λ g. IsExpansion g) c.self.view_is c.self.invariant.law in
    child_there c.args.self.now c.in-Some.step c.args.pb.0 c.block_of.result.now law.numbering c.in-Some.ensures.step c.block_of.ensures.is

pub returns-in-Some : goal.returns-in-Some
returns-in-Some t c =
    let is : block_at c.args.self.now c.args.pb.0 ≡ Some c.child_below.result.now =
    block_below c.args.self.now c.in-Some.step c.args.pb.0 c.block_of.result.now c.in-Some.ensures.step c.block_of.ensures.is ∙ c.child_below.ensures in
    record { is = is; short = (c.self.invariant.short c.args.pb.0 c.child_below.result.now (subst (λ (g : Graph). block_at g c.args.pb.0 ≡ Some c.child_below.result.now) (sym c.self.view_is) is)).0 }

pub returns-in-None-clause-short : goal.returns-in-None-clause-short
returns-in-None-clause-short t c =
    (c.self.invariant.short 0 c.self.inside.root (root_block (graph_of c.self.inside) (root_first c.self.inside.rows.keys))).0
