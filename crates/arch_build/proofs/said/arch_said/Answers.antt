use Rattle.arch_build.proofs.Whole.{said_is}
use Rattle.arch_build.proofs.said.arch_said.Goals as goal

pub returns : goal.returns
returns c = said_is c.args.root.now _ _ _ _ _ _ c.in_ok-models.ensures c.as_slice.ensures c.in_ok-blocks.ensures c.as_slice-2.ensures c.in_ok-tiles.ensures c.in_ok-layouts.ensures
