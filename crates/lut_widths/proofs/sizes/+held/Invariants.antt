use Rattle.std.proofs.Common.{take}
use Rattle.lut_widths.specs.Sizes.{AreSizes, AtSome, InChild, InMode}
use Rattle.lut_widths.proofs.sizes.+held.Given as goal

abbrev pub invariant-kids_sizes-loop-kid : goal.invariant-kids_sizes-loop-kid
invariant-kids_sizes-loop-kid l = AreSizes (AtSome InChild (take l.kid-index l.kids)) l.sizes

abbrev pub invariant-modes_sizes-loop-mode : goal.invariant-modes_sizes-loop-mode
invariant-modes_sizes-loop-mode l = AreSizes (AtSome InMode (take l.mode-index l.modes)) l.sizes
