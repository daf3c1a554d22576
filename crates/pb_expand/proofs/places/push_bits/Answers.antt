use Rattle.std.proofs.Common.{◌≡◌, ◌+◌, ◌-◌, ◌<◌, ◌∷◌, [], map, length, ap, ◌∙◌, arith, length-append}
use Rattle.vtr_base.specs.Lists.{up_from}
use Rattle.pb_expand.specs.Graph.{pin_at}
use Rattle.pb_expand.proofs.Fills.{fills_more, bits_step, no_room_for, length-bits}
use Rattle.pb_expand.proofs.places.push_bits.Goals as goal

pub loop-bit-preserved : goal.loop-bit-preserved
loop-bit-preserved c =
    let pin = pin_at c.args.pb.0 c.args.port c.loop-bit.bit in
    let longer : length c.push.new.self.items ≡ length c.loop-bit.pins.items + 1 =
    ap length c.in_ok-push.ensures.items ∙ length-append c.loop-bit.pins.items (pin ∷ []) in
    let room : length c.loop-bit.pins.items < 1048576 = omega (arith, c.if-len-ge-MOST_PINS.false, c.len.ensures, c.loop-bit.pins.ok) in
    fills_more c.args.pins.now.items c.loop-bit.pins.items c.push.new.self.items (pin ∷ [])
    (map (pin_at c.args.pb.0 c.args.port) (up_from c.loop-bit.bit (c.args.width - c.loop-bit.bit)))
    (map (pin_at c.args.pb.0 c.args.port) (up_from (c.loop-bit.bit + 1) (c.args.width - (c.loop-bit.bit + 1))))
    (map (pin_at c.args.pb.0 c.args.port) (up_from 0 c.args.width)) c.loop-bit.invariant
    (bits_step c.args.pb.0 c.args.port c.loop-bit.bit c.args.width c.loop-bit-test.true) c.in_ok-push.ensures.items (λ h. omega arith)

pub returns-then-len-ge-MOST_PINS-clause-many : goal.returns-then-len-ge-MOST_PINS-clause-many
returns-then-len-ge-MOST_PINS-clause-many c = λ told.
    let full : 1048576 < length c.loop-bit.pins.items + 1 = omega (arith, c.if-len-ge-MOST_PINS.true, c.len.ensures, c.loop-bit.pins.ok) in
    let all = no_room_for c.args.pins.now.items c.loop-bit.pins.items (map (pin_at c.args.pb.0 c.args.port) (up_from c.loop-bit.bit (c.args.width - c.loop-bit.bit)))
    (pin_at c.args.pb.0 c.args.port c.loop-bit.bit ∷ []) (map (pin_at c.args.pb.0 c.args.port) (up_from (c.loop-bit.bit + 1) (c.args.width - (c.loop-bit.bit + 1))))
    (map (pin_at c.args.pb.0 c.args.port) (up_from 0 c.args.width)) c.loop-bit.invariant
    (bits_step c.args.pb.0 c.args.port c.loop-bit.bit c.args.width c.loop-bit-test.true) full in
    omega (arith, all, length-bits c.args.pb.0 c.args.port 0 c.args.width)
