use Rattle.prog_text.proofs.Descends.{out_of, nil_by, some_by, no_dot, no_instance_named, no_index_behind, more_behind, no_port_named, pin_looked_up}
use Rattle.prog_text.proofs.graph.GraphNames.pin.Goals as goal

pub returns-in_err-instance : goal.returns-in_err-instance
returns-in_err-instance c =
    out_of _ _ c.from_residual.result c.from_residual.ensures (λ n. no_dot c.args.graph.now c.law.ensures c.requires.plain c.args.text.now n c.in_err-instance.ensures)

pub returns-in_err-pb : goal.returns-in_err-pb
returns-in_err-pb c =
    out_of _ _ c.from_residual-in_err-pb.result c.from_residual-in_err-pb.ensures
    (no_instance_named c.args.graph.now c.law.ensures c.requires.plain c.args.text.now _ _ c.in_ok-instance.ensures c.in_err-pb.ensures)

pub returns-in_err-bit : goal.returns-in_err-bit
returns-in_err-bit c =
    out_of _ _ c.from_residual-in_err-bit.result c.from_residual-in_err-bit.ensures
    (no_index_behind c.args.graph.now c.law.ensures c.requires.plain c.args.text.now _ _ c.in_ok-instance.ensures c.in_err-bit.ensures)

pub returns-then-not-is_empty : goal.returns-then-not-is_empty
returns-then-not-is_empty c =
    more_behind c.args.graph.now c.law.ensures c.requires.plain c.args.text.now _ _ _ _ _ c.in_ok-instance.ensures c.in_ok-bit.ensures (some_by _ c.if-not-is_empty.ensures)

pub returns-in_err-port : goal.returns-in_err-port
returns-in_err-port c =
    out_of _ _ c.from_residual-in_err-port.result c.from_residual-in_err-port.ensures
    (no_port_named c.args.graph.now c.law.ensures c.requires.plain c.args.text.now _ _ _ _ _ _ c.in_ok-instance.ensures c.in_ok-pb.ensures c.in_ok-bit.ensures c.in_err-port.ensures)

pub returns : goal.returns
returns c =
    pin_looked_up c.args.graph.now c.law.ensures c.requires.plain c.args.text.now _ _ _ _ _ _ _ c.in_ok-instance.ensures c.in_ok-pb.ensures c.in_ok-bit.ensures
    (nil_by _ c.if-not-is_empty.ensures) c.in_ok-port.ensures c.pin_of.result c.pin_of.ensures
