-- One more pair.
use Rattle.anneal_placer.proofs.Fits.{pairs_more, same_pairs}
use Rattle.std.proofs.Common.{arith}
use Rattle.std.proofs.lemmas.List.{take_more}
use Rattle.anneal_placer.proofs.pairing.Pairing.of.Goals as goal

pub loop-pair-preserved : goal.loop-pair-preserved
loop-pair-preserved c =
    pairs_more c.args.fits.now c.loop-pair.pairs.keys c.insert.new.self.keys c.loop-pair.pair-index _ (take_more c.args.fits.now c.loop-pair.pair-index _ c.loop-pair-test.true) c.loop-pair.invariant c.in_ok-insert.ensures.keys

pub returns : goal.returns
returns c =
    same_pairs c.args.fits.now c.loop-pair.pairs.keys c.loop-pair.pair-index (omega (arith, c.loop-pair-test.false)) c.loop-pair.invariant
