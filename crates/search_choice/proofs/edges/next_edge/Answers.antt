use Rattle.std.proofs.Common.{◌≡◌, ◌<◌, ◌∙◌, sym, ℕ, Option, None, Some, slice_get}
use Rattle.std.specs.Prelude.{IfNone}
use Rattle.std.proofs.lemmas.Option.{slice_get_within}
use Rattle.list_laws.proofs.Members.{has_at}
use Rattle.search_choice.proofs.Decided.{if_none, no_edges, no_mode, not_open}
use Rattle.search_choice.proofs.edges.next_edge.Goals as goal

pub returns-in_err-first-clause-decided : goal.returns-in_err-first-clause-decided
returns-in_err-first-clause-decided c =
    if_none c.from_residual.result
    (no_edges c.args.graph.now c.args.trail.now.made c.law.ensures c.requires.modes c.requires.leaves c.args.pin.0 c.edges_into_pin.result.now c.edges_into_pin.ensures (sym c.in_err-first.ensures.value))

pub edge-requires : goal.edge-requires
edge-requires c =
    let found = (c.edges_into_pin.ensures.exact c.in_ok-first.first.now.0).0 (has_at c.edges_into_pin.result.now 0 c.in_ok-first.first.now (sym c.in_ok-first.ensures.value)) in
    slice_get_within c.args.graph.now.edges c.in_ok-first.first.now.0 found.0 found.1

pub returns-in_err-mode-clause-decided : goal.returns-in_err-mode-clause-decided
returns-in_err-mode-clause-decided c =
    if_none c.from_residual-in_err-mode.result
    (no_mode c.args.graph.now c.args.trail.now.made c.law.ensures c.requires.modes c.requires.leaves c.args.pin.0 c.edges_into_pin.result.now c.edges_into_pin.ensures c.one_owner.ensures c.in_ok-first.first.now (sym c.in_ok-first.ensures.value)
    c.edge.result c.edge.ensures.is (sym c.in_err-mode.ensures))

pub returns-then-not-is_open_var-clause-decided : goal.returns-then-not-is_open_var-clause-decided
returns-then-not-is_open_var-clause-decided c =
    not_open c.args.graph.now c.args.trail.now.made c.law.ensures c.requires.modes c.requires.leaves c.args.pin.0 c.edges_into_pin.result.now c.edges_into_pin.ensures c.one_owner.ensures c.in_ok-first.first.now (sym c.in_ok-first.ensures.value)
    c.edge.result c.edge.ensures.is c.args.task.now c.in_ok-mode.mode (sym c.in_ok-mode.ensures)
    (λ open'. (let bad : ⊥ = cc (sym c.if-not-is_open_var.true ∙ c.is_open_var.ensures.1 open') in bad))
