use Rattle.mode_edges.proofs.Verdicts.{reads_none, reads_items}
use Rattle.mode_edges.proofs.names.ModeNames.read_pins.Goals as goal

pub returns-in_default : goal.returns-in_default
returns-in_default c =
    reads_none c.args.self.now.block c.args.self.now.mode c.args.role c.args.text.now (rw c.in_default.is at c.in_ok-found.ensures)

pub returns : goal.returns
returns c =
    reads_items c.args.self.now.block c.args.self.now.mode c.args.role c.args.text.now c.in-Some.found.items c.as_slice.result.now c.in_ok-list_pins.field-0.items
    (rw c.in-Some.is at c.in_ok-found.ensures) c.as_slice.ensures.value c.in_ok-list_pins.ensures
