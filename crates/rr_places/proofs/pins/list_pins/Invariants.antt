use Rattle.std.proofs.Common.{take, map}
use Rattle.std.specs.Option.{option_copied}
use Rattle.rr_places.specs.Reading.{AreRead}
use Rattle.rr_places.specs.Pins.{SaysPin, ptc_of, AreClasses}
use Rattle.rr_places.specs.PinElems.{seen_pin}
use Rattle.rr_places.proofs.pins.list_pins.Given as goal

abbrev pub invariant-loop-item : goal.invariant-loop-item
invariant-loop-item l =
    AreRead (SaysPin (option_copied l.tile)) ptc_of (take l.item-index (map seen_pin l.elems)) l.by_ptc.entries × AreClasses l.by_ptc.entries l.classes.entries
