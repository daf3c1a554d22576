-- What clauses see of a `pin` element with the number of its class.
use Rattle.rr_places.specs.declared.pins.PinElem.{PinElem}
use Rattle.rr_places.specs.Pins.{PinItem}

abbrev pub seen_pin : PinElem → PinItem
seen_pin p = (p.class, p.elem.now)
