use Rattle.std.proofs.Common.{rules}
use Rattle.arch_build.proofs.Rows.{block_is, mode_is}
use Rattle.arch_build.proofs.block.+blocks.Goals as goal

pub push_mode-returns-in_ok-push : goal.push_mode-returns-in_ok-push
push_mode-returns-in_ok-push t c = rw (mode_is c.args.models.now c.args.elem.now) (search rules)

pub push_mode-returns-else-has_tag : goal.push_mode-returns-else-has_tag
push_mode-returns-else-has_tag t c = rw (mode_is c.args.models.now c.args.elem.now) (search rules)

pub push_block-returns-in_ok-push : goal.push_block-returns-in_ok-push
push_block-returns-in_ok-push t c = rw (block_is c.args.models.now c.args.elem.now) (search rules)

pub push_block-returns-else-has_tag : goal.push_block-returns-else-has_tag
push_block-returns-else-has_tag t c = rw (block_is c.args.models.now c.args.elem.now) (search rules)
