use Rattle.std.proofs.Common.{◌≡◌, ◌++◌, map, drop}
use Rattle.rr_places.specs.Pins.{pins_from}
use Rattle.rr_places.specs.PinElems.{seen_pin}
use Rattle.rr_places.proofs.pin_elems.pins_of_classes.Given as goal

abbrev pub invariant-loop-place : goal.invariant-loop-place
invariant-loop-place l =
    map seen_pin l.found.items ++ pins_from l.place (drop l.place (map (λ e. e.now) l.classes)) ≡ pins_from 0 (map (λ e. e.now) l.classes)
