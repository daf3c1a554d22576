use Rattle.std.proofs.Common.{◌∙◌, ◌≡◌, ◌≤◌, [], length, map, subst, sym, ap, arith}
use Rattle.arch_types.specs.Tree.{inters_of}
use Rattle.mode_edges.specs.Edges.{AreEdges}
use Rattle.mode_edges.specs.Pairs.{edge_of, edges_in}
use Rattle.mode_edges.proofs.EdgeSets.{EdgesTo, edges_none, edges_all, inter_added, inter_stops}
use Rattle.mode_edges.proofs.Verdicts.{inter_at}
use Rattle.mode_edges.proofs.names.ModeNames.edges.Goals as goal

pub loop-place-init : goal.loop-place-init
loop-place-init c =
    let none : edges_in c.new-found.result ≡ [] = ap (map (λ entry. edge_of entry.0 entry.1)) c.new-found.ensures.empty in
    record {
      edges = subst (EdgesTo c.args.self.now.block c.args.self.now.mode 0) (sym none) (edges_none c.args.self.now.block c.args.self.now.mode);
      few = omega (arith, ap length none);
    }

pub add_inter-requires : goal.add_inter-requires
add_inter-requires c =
    c.requires c.loop-place.place c.inter-item.result
    (inter_at c.args.self.now.mode c.as_slice-inter-items.result.now c.loop-place.place c.inter-item.result (c.as_slice-inter-items.ensures ∙ ap inters_of c.mode.ensures)
    c.loop-place-test.true c.inter-item.is)

pub returns-then-not-branch : goal.returns-then-not-branch
returns-then-not-branch c =
    let at = inter_at c.args.self.now.mode c.as_slice-inter-items.result.now c.loop-place.place c.inter-item.result (c.as_slice-inter-items.ensures ∙ ap inters_of c.mode.ensures) c.loop-place-test.true
    c.inter-item.is in
    inter_stops c.args.self.now.block c.args.self.now.mode c.inter-item.result c.loop-place.place c.in_ok-number.number c.args.most (edges_in c.loop-place.found)
    (edges_in c.add_inter.new.found) c.in_ok-number.ensures at
    (rw c.if-not-branch.true at c.in_ok-add_inter.ensures) c.requires c.loop-place.invariant.edges

pub loop-place-preserved : goal.loop-place-preserved
loop-place-preserved c =
    let at = inter_at c.args.self.now.mode c.as_slice-inter-items.result.now c.loop-place.place c.inter-item.result (c.as_slice-inter-items.ensures ∙ ap inters_of c.mode.ensures) c.loop-place-test.true
    c.inter-item.is in
    let added = inter_added c.args.self.now.block c.args.self.now.mode c.inter-item.result c.loop-place.place c.in_ok-number.number c.args.most (edges_in c.loop-place.found)
    (edges_in c.add_inter.new.found) c.in_ok-number.ensures at
    (rw c.if-not-branch.false at c.in_ok-add_inter.ensures) c.loop-place.invariant.edges in
    record { edges = added.0; few = added.1 c.loop-place.invariant.few }

pub returns : goal.returns
returns c =
    let end : length (inters_of c.args.self.now.mode) ≤ c.loop-place.place = omega (arith, ap length (c.as_slice-inter-items.ensures ∙ ap inters_of c.mode.ensures)) in (
      subst (AreEdges c.args.self.now.block c.args.self.now.mode) (sym c.in_ok-edges_found.ensures)
          (edges_all c.args.self.now.block c.args.self.now.mode c.loop-place.place (edges_in c.loop-place.found) end c.loop-place.invariant.edges),
      subst (λ l. length l ≤ c.args.most) (sym c.in_ok-edges_found.ensures) c.loop-place.invariant.few,
    )
