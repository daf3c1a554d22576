-- What the first blocks did, and that none of them can go anywhere where they did nothing.
use Rattle.std.proofs.Common.{◌≡◌, false, IsTrue}
use Rattle.std.specs.List.{All}
use Rattle.anneal_placer.specs.Board.{Descends}
use Rattle.anneal_placer.specs.Search.{AreStuck}
use Rattle.anneal_placer.proofs.descent.pass.Given as goal

abbrev pub invariant-loop-block : goal.invariant-loop-block
invariant-loop-block l = record {
  descends : Descends l.task l.initial.board.places.items l.initial.board.occupants.items l.board.places.items l.board.occupants.items l.better;
  stuck : l.better ≡ false → All IsTrue l.active → AreStuck l.task l.initial.board.places.items l.initial.board.occupants.items l.block;
}
