use Rattle.std.proofs.Common.{map, sym, subst, ◌∙◌}
use Rattle.list_laws.specs.Orders.{Once}
use Rattle.vtr_base.specs.Lists.{Has}
use Rattle.rr_items.specs.declared.carriers.CarriedNode.{CarriedNode}
use Rattle.rr_wires.specs.Wires.{HasWiredEnds}
use Rattle.rr_files.proofs.Joining.{plain_ends}
use Rattle.rr_files.proofs.Sounding.{ids_carried}
use Rattle.rr_files.proofs.read.wires_of.Goals as goal

pub of_graph-requires-clause-ids : goal.of_graph-requires-clause-ids
of_graph-requires-clause-ids c =
    subst (λ l. Once (map (λ (m : CarriedNode). m.id) l)) (sym c.carried.ensures) (subst Once (sym (ids_carried c.args.nodes.now)) c.law.ensures.once)

pub of_graph-requires-clause-ends : goal.of_graph-requires-clause-ends
of_graph-requires-clause-ends c = λ e has.
    subst (λ l. HasWiredEnds l e) (sym c.carried.ensures)
    (plain_ends _ c.args.edges.now c.requires e (subst (λ l. Has l e) (c.as_slice.ensures.value ∙ c.in_ok-edges.ensures.same) has))
