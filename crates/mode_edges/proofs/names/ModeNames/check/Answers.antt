use Rattle.std.proofs.Common.{◌≤◌, length, ap, ◌∙◌, arith}
use Rattle.arch_types.specs.Tree.{inters_of}
use Rattle.mode_edges.proofs.Verdicts.{inter_at, one_more_faultless, all_faultless}
use Rattle.mode_edges.proofs.names.ModeNames.check.Goals as goal

pub loop-inter-preserved : goal.loop-inter-preserved
loop-inter-preserved c =
    one_more_faultless c.args.self.now.block c.args.self.now.mode c.loop-inter.inter-index c.inter-item.result
    (inter_at c.args.self.now.mode c.as_slice-inter-items.result.now c.loop-inter.inter-index c.inter-item.result
    (c.as_slice-inter-items.ensures ∙ ap inters_of c.mode.ensures) c.loop-inter-test.true c.inter-item.is)
    c.in_ok-check_inter.ensures c.loop-inter.invariant

pub returns : goal.returns
returns c =
    let end : length (inters_of c.args.self.now.mode) ≤ c.loop-inter.inter-index =
    omega (arith, ap length (c.as_slice-inter-items.ensures ∙ ap inters_of c.mode.ensures)) in
    all_faultless c.args.self.now.block c.args.self.now.mode c.loop-inter.inter-index end c.loop-inter.invariant
