use Rattle.std.proofs.Common.{arith, subst}
use Rattle.std.proofs.lemmas.List.{take_all}
use Rattle.meta_lines.proofs.Keys.{same_take}
use Rattle.meta_lines.proofs.mux.set_of.Goals as goal

pub loop-pin-preserved : goal.loop-pin-preserved
loop-pin-preserved c =
    same_take c.args.pins.now c.loop-pin.set.keys c.insert.new.self.keys c.loop-pin.pin-index _ c.loop-pin-test.true c.in_ok-insert.ensures.keys c.loop-pin.invariant
