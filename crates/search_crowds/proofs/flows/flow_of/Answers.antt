use Rattle.std.proofs.Common.{◌<◌, ℕ, List, length, sym, ap, subst, ◌∙◌, arith}
use Rattle.std.specs.List.{All}
use Rattle.std.proofs.lemmas.Result.{IfOk-weaker}
use Rattle.sparse_set.specs.Sets.{Held}
use Rattle.crowd_cuts.specs.Answer.{IsFlow}
use Rattle.search_crowds.specs.Webs.{AreSources, IsFlowOf}
use Rattle.search_crowds.proofs.Joined.{edges_inside, firsts_inside, sources_inside, flow_at}
use Rattle.search_crowds.proofs.flows.flow_of.Goals as goal

pub disjoint_paths-requires-clause-edges : goal.disjoint_paths-requires-clause-edges
disjoint_paths-requires-clause-edges c =
    let start = ap (λ (h : Held). h.room) c.requires.reached in
    subst (λ (l : List (ℕ × ℕ)). All {X = ℕ × ℕ} (λ edge. (edge.0 < c.pins-nodes.result) × (edge.1 < c.pins-nodes.result)) l) (sym c.from_vec.ensures)
    (edges_inside c.args.graph.now c.args.trail.now.made c.put_all_ends.new.reached.items c.spread.new.reached.items (length c.spread.new.reached.items) c.pins-nodes.result c.in_ok-edges.edges.items
    (λ p has. (let below = c.law.ensures.inside p has in omega (arith, below, c.spread.ensures.room, c.put_all_ends.ensures.room, start, c.pins-nodes.ensures))) c.in_ok-edges.ensures.spread)

pub disjoint_paths-requires-clause-starts : goal.disjoint_paths-requires-clause-starts
disjoint_paths-requires-clause-starts c =
    let start = ap (λ (h : Held). h.room) c.requires.reached in
    subst (λ (l : List ℕ). All (λ (p : ℕ). p < c.pins-nodes.result) l) (sym (c.as_slice-2.ensures ∙ c.in_ok-ends.ensures ∙ c.as_slice.ensures))
    (firsts_inside c.args.graph.now c.args.trail.now.made c.put_all_ends.new.reached.items c.spread.new.reached.items (length c.spread.new.reached.items) c.pins-nodes.result c.in_ok-edges.edges.items
    (λ p has. (let below = c.law.ensures.inside p has in omega (arith, below, c.spread.ensures.room, c.put_all_ends.ensures.room, start, c.pins-nodes.ensures))) c.in_ok-edges.ensures.spread)

pub disjoint_paths-requires-clause-ends : goal.disjoint_paths-requires-clause-ends
disjoint_paths-requires-clause-ends c =
    let start = ap (λ (h : Held). h.room) c.requires.reached in
    let are = subst (λ (l : List ℕ). AreSources c.args.graph.now c.args.net.now.atoms c.args.task.now c.args.trail.now.made c.args.needs.now l c.in_ok-sources.sources.items) c.as_slice-pins.ensures c.in_ok-sources.ensures in
    subst (λ (l : List ℕ). All (λ (p : ℕ). p < c.pins-nodes.result) l) (sym c.as_slice-3.ensures.value)
    (sources_inside c.args.graph.now c.args.net.now.atoms c.args.task.now c.args.trail.now.made c.args.needs.now c.spread.new.reached.items c.in_ok-sources.sources.items c.pins-nodes.result
    (λ p has. (let below = c.law.ensures.inside p has in omega (arith, below, c.spread.ensures.room, c.put_all_ends.ensures.room, start, c.pins-nodes.ensures))) are)

pub returns-clause-flow : goal.returns-clause-flow
returns-clause-flow c =
    IfOk-weaker c.disjoint_paths.result (IsFlow c.pins-nodes.result c.from_vec.result c.as_slice-2.result.now c.as_slice-3.result.now (length c.args.needs.now))
    (IsFlowOf c.args.graph.now c.args.net.now.atoms c.args.task.now c.args.trail.now.made c.args.needs.now)
    (λ flow is. flow_at c.args.graph.now c.args.net.now.atoms c.args.task.now c.args.trail.now.made c.args.needs.now c.args.reached.now.items
    c.put_all_ends.new.reached.items c.as_slice-2.result.now c.spread.new.reached.items c.as_slice-pins.result.now c.in_ok-sources.sources.items c.as_slice-3.result.now c.in_ok-edges.edges.items c.from_vec.result c.pins-nodes.result flow
    (ap (λ (h : Held). h.items) c.requires.reached) (c.as_slice-2.ensures ∙ c.in_ok-ends.ensures ∙ c.as_slice.ensures) c.as_slice-pins.ensures c.as_slice-3.ensures.value c.from_vec.ensures c.pins-nodes.ensures
    c.put_all_ends.ensures.gains c.in_ok-edges.ensures.spread c.in_ok-sources.ensures is)
    c.disjoint_paths.ensures.flow
