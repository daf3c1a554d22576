use Rattle.std.proofs.Common.{map}
use Rattle.blif_pins.specs.Seen.{said}
use Rattle.blif_pins.proofs.Pinning.{some_says, none_says, reads_start, reads_next, reads_stop, reads_end}
use Rattle.blif_pins.proofs.pins.pins_of.Goals as goal

pub loop-word-init : goal.loop-word-init
loop-word-init c = reads_start c.args.ports.now.model c.args.ports.now.names c.args.words.now _ _ c.new-keys.ensures.empty c.new-pins.ensures.items

pub returns-in_default : goal.returns-in_default
returns-in_default c =
    reads_stop c.args.ports.now.model c.args.ports.now.names c.args.words.now c.loop-word.word-index _ c.loop-word.keys.keys c.loop-word.pins.items c.loop-word-test.true c.loop-word.invariant
    (none_says c.in_ok-pin.field-0 _ _ c.in_default.is (c.in_ok-pin.ensures (map said c.loop-word.pins.items) c.loop-word.invariant.taken))

pub loop-word-preserved : goal.loop-word-preserved
loop-word-preserved c =
    let says = some_says c.in_ok-pin.field-0 c.in-Some.pin _ _ c.in-Some.is (c.in_ok-pin.ensures (map said c.loop-word.pins.items) c.loop-word.invariant.taken) in
    reads_next c.one_reading.ensures c.args.ports.now.model c.args.ports.now.names c.args.words.now c.loop-word.word-index _ c.loop-word.keys.keys c.next_pin.new.keys.keys c.loop-word.pins.items _ c.in-Some.pin
    c.loop-word-test.true c.loop-word.invariant says.0 says.1 says.2 c.in_ok-push.ensures.items

pub returns : goal.returns
returns c = (
  reads_end c.args.ports.now.model c.args.ports.now.names c.args.words.now c.loop-word.word-index c.loop-word.keys.keys c.loop-word.pins.items c.loop-word-test.false c.loop-word.invariant,
  c.loop-word.invariant.sides,
)
