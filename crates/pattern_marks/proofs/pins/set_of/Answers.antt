use Rattle.pattern_marks.proofs.PinSets.{put_more}
use Rattle.pattern_marks.proofs.pins.set_of.Goals as goal

pub loop-pin-preserved : goal.loop-pin-preserved
loop-pin-preserved c =
    put_more c.args.pins.now c.loop-pin.set.keys c.insert.new.self.keys c.loop-pin.pin-index _ c.loop-pin-test.true c.in_ok-insert.ensures.keys c.loop-pin.invariant
