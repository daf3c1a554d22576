-- One more block.
use Rattle.std.proofs.Common.{arith}
use Rattle.anneal_placer.proofs.Boards.{seated}
use Rattle.anneal_placer.proofs.board.seat.Goals as goal

pub loop-block-preserved : goal.loop-block-preserved
loop-block-preserved c =
    let more = seated c.args.places.now c.loop-block.occupants c.loop-block.block c.requires.apart c.loop-block-test.true (λ k inside. omega (arith, c.requires.within k inside, c.loop-block.auto.occupants))
    c.loop-block.invariant.stands c.loop-block.invariant.held in
    record { stands = more.0; held = more.1 }

pub returns : goal.returns
returns c = record {
  within = λ k inside. omega (arith, c.requires.within k inside, c.loop-block.auto.occupants);
  stands = λ k inside. c.loop-block.invariant.stands k (omega (arith, c.loop-block-test.false));
  held = λ site k is. let told = c.loop-block.invariant.held site k is in (omega (arith, told.0, c.loop-block.auto.block-end), told.1);
}
