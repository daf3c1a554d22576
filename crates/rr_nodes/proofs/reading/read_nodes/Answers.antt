use Rattle.std.proofs.Common.{◌∙◌, ap, inl, inr}
use Rattle.std.proofs.lemmas.Result.{err_from_is_err_and}
use Rattle.rr_nodes.specs.Gathering.{gathered_nodes}
use Rattle.rr_nodes.proofs.Steps.{read_elems, elem_at, fails_there, said_more, all_said}
use Rattle.rr_nodes.proofs.reading.read_nodes.Goals as goal

pub returns-in_err-add_node : goal.returns-in_err-add_node
returns-in_err-add_node g c =
    let p = err_from_is_err_and c.from_residual-in_err-add_node.result c.from_residual-in_err-add_node.ensures.1 in
    rw (p.1, p.2)
    (elim c.in_err-add_node.ensures [
      | inl short ↦ inl short
      | inr fails ↦ inr
          (fails_there (g.T.PinTable.pin_of c.args.pins.now) _ c.as_slice-elem-items.result.now c.loop-elem.elem-index c.elem-item.result
          (gathered_nodes c.loop-elem.found) c.in_err-add_node.field-0.0 (ap read_elems c.as_slice-elem-items.ensures.value ∙ c.in_ok-elems.ensures)
          c.loop-elem-test.true c.elem-item.is c.loop-elem.invariant.0 fails)
    ])

pub loop-elem-preserved : goal.loop-elem-preserved
loop-elem-preserved g c = (
  said_more (g.T.PinTable.pin_of c.args.pins.now) (read_elems c.as_slice-elem-items.result.now) c.loop-elem.elem-index (gathered_nodes c.loop-elem.found)
      (gathered_nodes c.add_node.new.found) c.elem-item.result.now
      (elem_at c.as_slice-elem-items.result.now c.loop-elem.elem-index c.elem-item.result c.loop-elem-test.true c.elem-item.is)
      c.loop-elem.invariant.0 c.in_ok-add_node.ensures.0,
  c.in_ok-add_node.ensures.1,
)

pub returns : goal.returns
returns g c =
    rw c.of_gathered.ensures
    (all_said (g.T.PinTable.pin_of c.args.pins.now) _ c.as_slice-elem-items.result.now c.loop-elem.elem-index (gathered_nodes c.loop-elem.found)
    (ap read_elems c.as_slice-elem-items.ensures.value ∙ c.in_ok-elems.ensures) c.loop-elem-test.false c.loop-elem.invariant.0)
