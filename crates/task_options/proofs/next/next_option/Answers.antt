use Rattle.std.proofs.Common.{rules, ◌≡◌, ℕ, Some, subst, arith}
use Rattle.std.specs.Option.{option_map}
use Rattle.std.proofs.lemmas.Grind.{common_steps}
use Rattle.vtr_base.specs.Lists.{up_from}
use Rattle.pb_expand.specs.declared.number.EdgeIx.{EdgeIx}
use Rattle.task_types.specs.declared.decision.Decision.TheVariants as decision
use Rattle.task_types.specs.declared.decision.Occupant.{Occupant}
use Rattle.task_options.specs.Choosing.{IsNextIn, or_none}
use Rattle.task_options.proofs.Follow.{mode_next, occupant_next, edge_next, entry_next}
use Rattle.task_options.proofs.next.next_option.Goals as goal

pub returns-in-Mode : goal.returns-in-Mode
returns-in-Mode c =
    let same : c.map.result ≡ option_map (λ (m : ℕ). decision.Mode c.in-Mode.pb m) c.next_below-next.result = search (rules, c.map.ensures.cases) in
    mode_next c.args.graph.now c.args.task.now c.args.trail.now.made c.args.last c.in-Mode.pb c.in-Mode.mode c.next_below-next.result c.map.result c.in-Mode.is
    (subst (λ n. IsNextIn (up_from 0 n) c.in-Mode.mode c.next_below-next.result) c.mode_count.ensures c.next_below-next.ensures) same

pub returns-in-Occupant : goal.returns-in-Occupant
returns-in-Occupant c =
    let same : c.map-in-Occupant.result ≡ option_map (λ (o : Occupant). decision.Occupant c.in-Occupant.leaf o) c.next_occupant-next.result = grind (arith, common_steps, c.map-in-Occupant.ensures.cases) in
    occupant_next c.args.graph.now c.args.task.now c.args.trail.now.made c.args.last c.in-Occupant.leaf c.in-Occupant.occupant c.next_occupant-next.result c.map-in-Occupant.result c.in-Occupant.is
    c.next_occupant-next.ensures same

pub returns-in-Edge : goal.returns-in-Edge
returns-in-Edge c =
    let same : c.map-in-Edge.result ≡ option_map (λ (e : EdgeIx). decision.Edge c.in-Edge.pin c.in-Edge.mode (Some e)) c.next_edge-next.result = search (rules, c.map-in-Edge.ensures.cases) in
    edge_next c.args.graph.now c.args.task.now c.args.trail.now.made c.args.last c.in-Edge.pin c.in-Edge.mode c.in-Edge.edge c.edges_into.result.now c.next_edge-next.result c.map-in-Edge.result c.in-Edge.is
    c.edges_into.ensures c.next_edge-next.ensures same

pub returns-in-Entry : goal.returns-in-Entry
returns-in-Entry c =
    let same : c.map-in-Entry.result ≡ option_map (λ (n : ℕ). decision.Entry c.in-Entry.pin (Some n)) c.next_net-next.result = search (rules, c.map-in-Entry.ensures.cases) in
    entry_next c.args.graph.now c.args.task.now c.args.trail.now.made c.args.last c.in-Entry.pin c.in-Entry.net c.next_net-next.result c.map-in-Entry.result c.in-Entry.is
    (subst (λ n. IsNextIn (or_none (up_from 0 n)) c.in-Entry.net (option_map (λ (m : ℕ). Some m) c.next_net-next.result)) c.len.ensures c.next_net-next.ensures) same
