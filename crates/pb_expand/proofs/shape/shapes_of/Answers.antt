use Rattle.std.proofs.Common.{◌≡◌, ◌∷◌, [], map, length, ap, ◌∙◌, arith, length-append}
use Rattle.pb_expand.specs.declared.shape.Shape.{Shape}
use Rattle.pb_expand.specs.Graph.{pins_of_ports, pin_ix}
use Rattle.pb_expand.specs.Shapes.{IsShape}
use Rattle.pb_expand.proofs.Lists.{now_at}
use Rattle.pb_expand.proofs.ShapeLemmas.{over_less, ports_size, shapes_more}
use Rattle.pb_expand.proofs.shape.shapes_of.Goals as goal

pub pin_count-pins-requires : goal.pin_count-pins-requires
pin_count-pins-requires c =
    let here = now_at c.args.blocks.now c.loop-block.block-index c.block-item.result c.loop-block-test.true c.block-item.is in
    rw c.as_slice.ensures
    (omega (arith, c.loop-block.invariant.1, over_less c.loop-block.block-index (map (λ b. b.now) c.args.blocks.now) c.block-item.result.now here, c.requires.few))

pub kind_of_block-requires : goal.kind_of_block-requires
kind_of_block-requires c =
    let here = now_at c.args.blocks.now c.loop-block.block-index c.block-item.result c.loop-block-test.true c.block-item.is in
    (c.requires.short.each c.loop-block.block-index c.block-item.result.now here).0

pub overflow_cast-len : goal.overflow_cast-len
overflow_cast-len c =
    let here = now_at c.args.blocks.now c.loop-block.block-index c.block-item.result c.loop-block-test.true c.block-item.is in
    omega (arith, (c.requires.short.each c.loop-block.block-index c.block-item.result.now here).1, c.len.ensures)

pub overflow_add-next : goal.overflow_add-next
overflow_add-next c =
    let here = now_at c.args.blocks.now c.loop-block.block-index c.block-item.result c.loop-block-test.true c.block-item.is in
    let count : c.pin_count-pins.result ≡ length (pins_of_ports 0 0 c.block-item.result.now.ports) = c.pin_count-pins.ensures ∙ ap (λ ps. length (pins_of_ports 0 0 ps)) c.as_slice.ensures in
    omega (arith, c.loop-block.invariant.1, over_less c.loop-block.block-index (map (λ b. b.now) c.args.blocks.now) c.block-item.result.now here, count, c.requires.few)

pub loop-block-preserved : goal.loop-block-preserved
loop-block-preserved c =
    let blocks = map (λ b. b.now) c.args.blocks.now in
    let n = c.loop-block.block-index in
    let block = c.block-item.result.now in
    let here = now_at c.args.blocks.now n c.block-item.result c.loop-block-test.true c.block-item.is in
    let count : c.pin_count-pins.result ≡ length (pins_of_ports 0 0 block.ports) = c.pin_count-pins.ensures ∙ ap (λ ps. length (pins_of_ports 0 0 ps)) c.as_slice.ensures in
    let s : Shape = record { kind = c.kind_of_block.result; ports = c.len.result; pins = c.pin_count-pins.result; first_pin = pin_ix c.loop-block.next } in
    let is : IsShape blocks n block s = record {
      kind = c.kind_of_block.ensures;
      ports = c.len.ensures;
      pins = count ∙ ports_size 0 n 0 0 block.ports;
      first = c.loop-block.invariant.1;
    } in (
      ap length c.in_ok-push.ensures.items ∙ length-append c.loop-block.shapes.items (s ∷ []) ∙ omega (arith, c.loop-block.invariant.0),
      omega (arith, c.loop-block.invariant.1, over_less n blocks block here, count),
      shapes_more blocks n block s c.loop-block.shapes.items c.push.new.self.items here c.loop-block.invariant.0 c.loop-block.invariant.2 is c.in_ok-push.ensures.items,
    )
