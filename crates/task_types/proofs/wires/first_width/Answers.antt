use Rattle.std.proofs.Common.{Some, sym, ap, ◌∙◌}
use Rattle.std.proofs.lemmas.Option.{slice_get-get_or}
use Rattle.task_types.proofs.Widths.{width_here}
use Rattle.task_types.proofs.wires.first_width.Goals as goal

pub returns-then-is_input-clause-width : goal.returns-then-is_input-clause-width
returns-then-is_input-clause-width c =
    let at = slice_get-get_or c.args.ports.now c.loop-port.port-index c.port-item.result c.loop-port-test.true ∙ ap (λ x. Some x) (sym c.port-item.is) in
    sym (width_here c.args.ports.now c.loop-port.port-index c.port-item.result c.loop-port.invariant at (c.is_input.ensures.0 c.if-is_input.true))
