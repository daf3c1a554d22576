-- What draws the blocks that were passed.
use Rattle.anneal_placer.specs.Search.{AreFirstPulls}
use Rattle.anneal_placer.proofs.pull.pulls_of.Given as goal

abbrev pub invariant-loop-block : goal.invariant-loop-block
invariant-loop-block l = AreFirstPulls l.task l.places l.pulls.items l.block
