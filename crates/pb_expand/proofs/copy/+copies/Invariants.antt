use Rattle.std.proofs.Common.{◌≡◌, take}
use Rattle.pb_expand.proofs.copy.+copies.Given as goal

abbrev pub invariant-copy_blocks-loop-block : goal.invariant-copy_blocks-loop-block
invariant-copy_blocks-loop-block l = l.copies ≡ take l.block-index l.blocks

abbrev pub invariant-copy_modes-loop-mode : goal.invariant-copy_modes-loop-mode
invariant-copy_modes-loop-mode l = l.copies ≡ take l.mode-index l.modes
