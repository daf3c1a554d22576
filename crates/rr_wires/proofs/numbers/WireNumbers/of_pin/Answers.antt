use Rattle.rr_wires.specs.declared.types.WireIx.{WireIx}
use Rattle.rr_wires.proofs.Keys.{key_found, pin_eq, pin_same, pin_itself}
use Rattle.rr_wires.proofs.numbers.WireNumbers.of_pin.Goals as goal

pub returns : goal.returns
returns c =
    rw (← c.self.view_is, c.copied.ensures, c.get.ensures.value) (key_found {V = WireIx} pin_eq pin_same pin_itself c.self.inside.pins.entries c.args.pin)
