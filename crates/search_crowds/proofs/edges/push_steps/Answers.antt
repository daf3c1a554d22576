use Rattle.std.proofs.Common.{subst, length}
use Rattle.std.proofs.lemmas.Result.{on_ok_weaker}
use Rattle.sparse_set.specs.Sets.{Held}
use Rattle.task_types.specs.Open.{AllowsStep}
use Rattle.task_reach.specs.Gains.{Gains}
use Rattle.search_crowds.specs.Webs.{AddsEdges}
use Rattle.search_crowds.proofs.Spreading.{spread_more}
use Rattle.search_crowds.proofs.edges.push_steps.Goals as goal

pub returns-clause-spread : goal.returns-clause-spread
returns-clause-spread c =
    let gains = subst (λ (h : Held). Gains h.items c.put_steps.new.reached.items (AllowsStep c.args.graph.now c.args.trail.now.made c.args.pin.0)) c.requires.steps c.put_steps.ensures.gains in
    on_ok_weaker c.push_edges-pushed.result (λ adds at first is spread.
    spread_more c.args.graph.now c.args.trail.now.made first c.args.reached.now.items c.push_edges-pushed.new.reached.items c.put_steps.new.reached.items at c.args.pin.0 c.args.edges.now.items c.push_edges-pushed.new.edges.items is gains
    (subst (λ l. AddsEdges c.args.pin.0 l (length l) c.args.reached.now.items c.push_edges-pushed.new.reached.items c.args.edges.now.items c.push_edges-pushed.new.edges.items) c.as_slice.ensures adds)
    spread) c.push_edges-pushed.ensures.edges
