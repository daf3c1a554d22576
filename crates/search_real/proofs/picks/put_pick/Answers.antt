use Rattle.std.proofs.Common.{◌≡◌, ◌+◌, Some, true, length, sym, ◌∙◌, subst}
use Rattle.std.proofs.lemmas.Result.{on_ok_weaker}
use Rattle.pb_expand.specs.Graph.{edge_ix}
use Rattle.prog_map.specs.Choices.{with_pick}
use Rattle.task_types.specs.Decisions.{edge_in}
use Rattle.search_real.specs.Said.{Says}
use Rattle.search_real.proofs.Taking.{pick_put, no_pick}
use Rattle.search_real.proofs.picks.put_pick.Goals as goal

pub returns-then-is_decided : goal.returns-then-is_decided
returns-then-is_decided c =
    let old = c.args.prog.now in
    let number = c.args.number.0 in
    let edge = c.edge-mode.result in
    let all = length c.args.graph.now.instances in
    let taken : edge_in c.args.trail.now.made edge.dst.0 edge.mode ≡ Some (Some (edge_ix number)) = sym c.edge_in.ensures ∙ c.is_decided.ensures.0 c.if-is_decided.true in
    let said = pick_put c.args.graph.now c.args.trail.now.made number edge c.edge-mode.ensures.is old (with_pick old edge.dst.0 edge.mode number) all all all c.requires.before taken (c.setting_laws.ensures.pick old edge.dst.0 edge.mode number) in
    on_ok_weaker c.set_edge.result (λ is. subst (λ x. Says c.args.graph.now c.args.trail.now.made x all all all (number + 1)) (sym is) said) c.set_edge.ensures.ok

pub returns : goal.returns
returns c =
    let all = length c.args.graph.now.instances in
    no_pick c.args.graph.now c.args.trail.now.made c.args.number.0 c.edge-mode.result c.edge-mode.ensures.is c.args.prog.now all all all c.requires.before
    (λ taken. (let yes : c.is_decided.result ≡ true = c.is_decided.ensures.1 (c.edge_in.ensures ∙ taken) in cc (sym yes ∙ c.if-is_decided.false)))
