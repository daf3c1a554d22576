use Rattle.std.proofs.Common.{List, subst, sym}
use Rattle.list_laws.specs.Orders.{HaveSame}
use Rattle.rr_items.specs.declared.carriers.CarriedNode.{CarriedNode}
use Rattle.rr_wires.proofs.AddedNodes.{numbering_moves, lows_move}
use Rattle.rr_wires.proofs.numbers.WireNumbers.of.Goals as goal

pub returns-clause-numbers : goal.returns-clause-numbers
returns-clause-numbers c =
    let same = subst (λ (l : List CarriedNode). HaveSame c.args.nodes.now l) (sym c.as_slice.ensures.value) c.in_ok-sorted.ensures.same in
    numbering_moves c.args.nodes.now c.as_slice.result.now same c.in_ok-of_sorted.field-0 c.in_ok-of_sorted.ensures.numbers

pub returns-clause-lows : goal.returns-clause-lows
returns-clause-lows c =
    let same = subst (λ (l : List CarriedNode). HaveSame c.args.nodes.now l) (sym c.as_slice.ensures.value) c.in_ok-sorted.ensures.same in
    lows_move c.args.nodes.now c.as_slice.result.now same c.in_ok-of_sorted.ensures.lows
