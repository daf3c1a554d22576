use Rattle.prog_map.specs.Choices.{mode_of}
use Rattle.prog_map.specs.Live.{AreLiveBefore}
use Rattle.prog_map.proofs.live.live_instances.Given as goal

abbrev pub invariant-loop-pb : goal.invariant-loop-pb
invariant-loop-pb l = AreLiveBefore l.graph (mode_of l.prog) l.live.items l.pb
