-- The number was added to the lists of the blocks that were passed.
use Rattle.std.proofs.Common.{map, take}
use Rattle.std.specs.Vec.{vec_items}
use Rattle.anneal_placer.specs.Search.{AddsNet}
use Rattle.anneal_placer.proofs.indexed.add_net.Given as goal

abbrev pub invariant-loop-block : goal.invariant-loop-block
invariant-loop-block l = AddsNet l.number (take l.block-index l.net) (map vec_items l.initial.of) (map vec_items l.of)
