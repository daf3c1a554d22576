use Rattle.std.proofs.Common.{◌+◌, ◌<◌, ◌++◌, [], Err, map, length, drop, ap, ◌∙◌, subst, arith}
use Rattle.pb_expand.specs.Graph.{pins_of_ports}
use Rattle.pb_expand.specs.Making.{pins_over}
use Rattle.pb_expand.proofs.Lists.{now_at}
use Rattle.pb_expand.proofs.Fills.{fills_more, over_step, no_room_for}
use Rattle.pb_expand.specs.declared.error.SizeError.TheVariants as size
use Rattle.pb_expand.proofs.Told.{passed_on}
use Rattle.pb_expand.proofs.places.pins_of_blocks.Goals as goal

pub loop-pb-preserved : goal.loop-pb-preserved
loop-pb-preserved c =
    let blocks = map (λ b. b.now) c.args.blocks.now in
    let block = c.index-blocks-pb.result.now in
    let here = now_at c.args.blocks.now c.loop-pb.pb c.index-blocks-pb.result c.loop-pb-test.true c.index-blocks-pb.is in
    fills_more [] c.loop-pb.pins.items c.push_ports.new.pins.items (pins_of_ports c.loop-pb.pb 0 block.ports)
    (pins_over c.loop-pb.pb (drop c.loop-pb.pb blocks)) (pins_over (c.loop-pb.pb + 1) (drop (c.loop-pb.pb + 1) blocks)) (pins_over 0 blocks)
    c.loop-pb.invariant (over_step c.loop-pb.pb blocks block here)
    (c.in_ok-push_ports.ensures.added ∙ ap (λ ps. c.loop-pb.pins.items ++ pins_of_ports c.loop-pb.pb 0 ps) (c.in_ok-short.ensures.0 ∙ c.as_slice.ensures))
    c.in_ok-push_ports.ensures.few

pub returns-in_err-push_ports-clause-many : goal.returns-in_err-push_ports-clause-many
returns-in_err-push_ports-clause-many c = λ told.
    let blocks = map (λ b. b.now) c.args.blocks.now in
    let block = c.index-blocks-pb.result.now in
    let here = now_at c.args.blocks.now c.loop-pb.pb c.index-blocks-pb.result c.loop-pb-test.true c.index-blocks-pb.is in
    let full = c.in_err-push_ports.ensures.many (ap Err (passed_on _ c.in_err-push_ports.field-0.0 size.TooMany c.from_residual-in_err-push_ports.ensures.1 told)) in
    let ports = c.in_ok-short.ensures.0 ∙ c.as_slice.ensures in
    let all = no_room_for [] c.loop-pb.pins.items (pins_over c.loop-pb.pb (drop c.loop-pb.pb blocks)) (pins_of_ports c.loop-pb.pb 0 block.ports)
    (pins_over (c.loop-pb.pb + 1) (drop (c.loop-pb.pb + 1) blocks)) (pins_over 0 blocks) c.loop-pb.invariant (over_step c.loop-pb.pb blocks block here)
    (subst (λ ps. 1048576 < length c.loop-pb.pins.items + length (pins_of_ports c.loop-pb.pb 0 ps)) ports full) in
    omega (arith, all)
