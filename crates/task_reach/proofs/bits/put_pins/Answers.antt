use Rattle.std.proofs.lemmas.Option.{slice_get-get_or}
use Rattle.std.proofs.Common.{◌≡◌, ◌<◌, length}
use Rattle.pb_expand.specs.declared.number.PinIx.{PinIx}
use Rattle.task_reach.proofs.Growing.{item_more}
use Rattle.task_reach.proofs.Across.{all_pins}
use Rattle.task_reach.proofs.bits.put_pins.Goals as goal

pub loop-pin-preserved : goal.loop-pin-preserved
loop-pin-preserved c =
    item_more c.args.pins.now (λ (pin : PinIx) q. (q < length c.args.graph.now.pins) × (q ≡ pin.0)) c.args.listed.now c.loop-pin.listed c.put_inside.new.listed c.loop-pin.pin-index _
    (slice_get-get_or c.args.pins.now c.loop-pin.pin-index (record { 0 = 0 }) c.loop-pin-test.true) c.loop-pin.invariant c.put_inside.ensures.gains c.put_inside.ensures.room

pub returns-clause-gains : goal.returns-clause-gains
returns-clause-gains c = all_pins c.args.graph.now c.args.pins.now c.loop-pin.pin-index c.args.listed.now.items c.loop-pin.listed.items c.loop-pin-test.false c.loop-pin.invariant.gains
