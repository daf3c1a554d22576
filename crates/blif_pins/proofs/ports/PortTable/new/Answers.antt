use Rattle.std.proofs.Common.{subst, ap}
use Rattle.blif_pins.proofs.Porting.{fits_built}
use Rattle.blif_pins.proofs.ports.PortTable.new.Goals as goal

pub invariant_of-result : goal.invariant_of-result
invariant_of-result c =
    fits_built c.args.model.now c.new-names.result c.add_names.new.names c.add_names-2.new.names c.count-outs.result c.as_slice.result.now c.as_slice-2.result.now c.new-names.ensures c.as_slice.ensures c.as_slice-2.ensures
    c.in_ok-add_names.ensures c.in_ok-add_names-2.ensures c.count-outs.ensures c.law.ensures.once
