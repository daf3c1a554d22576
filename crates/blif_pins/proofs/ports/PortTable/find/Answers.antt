use Rattle.blif_pins.proofs.Porting.{no_port}
use Rattle.blif_pins.proofs.ports.PortTable.find.Goals as goal

pub returns-in_err-number : goal.returns-in_err-number
returns-in_err-number c =
    rw (c.from_residual.ensures, ← c.self.view_is)
    (no_port (record { model = c.self.inside.model.now; names = c.self.inside.names; outs = c.self.inside.outs }) c.args.name.now c.self.invariant c.in_err-number.ensures)
