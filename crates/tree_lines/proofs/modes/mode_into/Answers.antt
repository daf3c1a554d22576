use Rattle.std.proofs.Common.{sym, ◌∙◌}
use Rattle.std.proofs.lemmas.Option.{slice_get_within}
use Rattle.tree_lines.proofs.Edges.{no_first, first_edge, first_ends, is_none, not_none, no_edge, of_owner, no_edge_in, edge_in}
use Rattle.tree_lines.proofs.modes.mode_into.Goals as goal

pub returns-in_err-first : goal.returns-in_err-first
returns-in_err-first c =
    rw c.from_residual.ensures
    (no_edge c.args.graph.now c.args.pin.0 c.edges_into_pin.result.now c.args.text.now c.edges_into_pin.ensures
    (no_first c.edges_into_pin.result.now (sym c.in_err-first.ensures.value)))

pub edge-requires : goal.edge-requires
edge-requires c =
    let there = first_edge c.args.graph.now _ c.edges_into_pin.result.now c.in_ok-first.first.now c.edges_into_pin.ensures (sym c.in_ok-first.ensures.value) in
    slice_get_within c.args.graph.now.edges c.in_ok-first.first.now.0 there.0 there.1

pub returns-in_err-mode : goal.returns-in_err-mode
returns-in_err-mode c =
    let ends = first_ends c.args.graph.now c.args.pin.0 c.edges_into_pin.result.now c.in_ok-first.first.now c.edge.result c.edges_into_pin.ensures (sym c.in_ok-first.ensures.value) c.edge.ensures.is in
    rw c.from_residual-in_err-mode.ensures
    (λ m into. c.in_err-mode.ensures m
    (of_owner c.args.graph.now c.one_owner.ensures c.args.pin.0 c.in_ok-first.first.now.0 c.edge.result c.args.text.now m c.edge.ensures.is ends into))

pub returns-then-is_empty : goal.returns-then-is_empty
returns-then-is_empty c =
    let ends = first_ends c.args.graph.now c.args.pin.0 c.edges_into_pin.result.now c.in_ok-first.first.now c.edge.result c.edges_into_pin.ensures (sym c.in_ok-first.ensures.value) c.edge.ensures.is in
    no_edge_in c.args.graph.now c.one_owner.ensures c.lists_ends.ensures (c.names_are_one.ensures.mode c.requires.of.plain) c.args.pin.0 c.in_ok-first.first.now.0 c.edge.result
    c.args.text.now c.in_ok-mode.mode c.edge.ensures.is ends c.in_ok-mode.ensures
    (sym c.edges_into.ensures ∙ is_none c.edges_into.result.now (sym c.is_empty.ensures ∙ c.if-is_empty.true))

pub returns : goal.returns
returns c =
    let ends = first_ends c.args.graph.now c.args.pin.0 c.edges_into_pin.result.now c.in_ok-first.first.now c.edge.result c.edges_into_pin.ensures (sym c.in_ok-first.ensures.value) c.edge.ensures.is in
    edge_in c.args.graph.now c.one_owner.ensures c.lists_ends.ensures c.args.pin.0 c.in_ok-first.first.now.0 c.edge.result c.args.text.now c.in_ok-mode.mode
    c.edge.ensures.is ends c.in_ok-mode.ensures
    (λ none. not_none c.edges_into.result.now (sym c.is_empty.ensures ∙ c.if-is_empty.false) (c.edges_into.ensures ∙ none))
