use Rattle.std.proofs.Common.{◌++◌, map, ap, ◌∙◌, codes}
use Rattle.elem_reading.specs.Kids.{kids_named}
use Rattle.rr_places.specs.Pins.{pins_from}
use Rattle.rr_places.specs.PinElems.{seen_pin}
use Rattle.rr_places.proofs.Reading.{now_at}
use Rattle.rr_places.proofs.PinLists.{pins_step}
use Rattle.rr_places.proofs.pin_elems.pins_of_classes.Goals as goal

pub loop-place-preserved : goal.loop-place-preserved
loop-place-preserved c =
    let es = map (λ e. e.now) c.args.classes.now in
    let e = c.index-classes-place.result.now in
    let before = map seen_pin c.loop-place.found.items in
    let at = now_at c.args.classes.now c.loop-place.place c.index-classes-place.result c.loop-place-test.true c.index-classes-place.is in
    pins_step es c.loop-place.place e before (map seen_pin c.add_pins.new.found.items) (pins_from 0 es) at c.loop-place.invariant
    (c.in_ok-add_pins.ensures ∙ ap (λ n. before ++ map (λ pin. (n, pin)) (kids_named e (codes "pin"))) c.in_ok-class_number.ensures)
