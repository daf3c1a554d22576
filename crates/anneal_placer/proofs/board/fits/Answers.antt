-- The pair of kinds is one of the set's.
use Rattle.anneal_placer.proofs.Fits.{fit_decides}
use Rattle.anneal_placer.proofs.board.fits.Goals as goal

pub returns : goal.returns
returns c =
    fit_decides c.args.task.now c.args.block c.args.site c.index.result.now c.index-2.result.now c.args.pairing.now.pairs.keys c.contains.result c.requires.block c.requires.site c.index.ensures c.index-2.ensures
    c.requires.pairing c.contains.ensures
