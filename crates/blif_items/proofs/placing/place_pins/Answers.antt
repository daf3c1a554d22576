use Rattle.std.proofs.Common.{List}
use Rattle.blif_items.specs.Items.{list_of}
use Rattle.blif_items.proofs.Placed.{places_none, places_more, places_all}
use Rattle.blif_items.proofs.placing.place_pins.Goals as goal

pub loop-pin-init : goal.loop-pin-init
loop-pin-init c = λ model sides. places_none model c.args.listed.now c.args.book.now _ c.new-pins.ensures.items

pub loop-pin-preserved : goal.loop-pin-preserved
loop-pin-preserved c = λ model sides.
    places_more model c.args.listed.now c.args.book.now c.loop-pin.book c.place_pin.new.book c.loop-pin.pin-index _ c.loop-pin.pins.items _ (list_of c.in_ok-place_pin.field-0) c.loop-pin-test.true
    (c.in_ok-place_pin.ensures model (sides c.loop-pin.pin-index _ c.loop-pin-test.true)) c.in_ok-push_placed.ensures (c.loop-pin.invariant model sides)

pub returns : goal.returns
returns c = λ model sides. places_all model c.args.listed.now c.args.book.now c.loop-pin.book c.loop-pin.pin-index c.loop-pin.pins.items c.loop-pin-test.false (c.loop-pin.invariant model sides)
