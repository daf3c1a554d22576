use Rattle.std.proofs.Common.{sym, ◌∙◌, arith}
use Rattle.elem_text.proofs.Comments.{instruction_end}
use Rattle.elem_text.proofs.pieces.behind_instruction.Goals as goal

pub returns : goal.returns
returns c = sym (instruction_end c.args.bytes.now c.loop-n.n (omega (arith, c.saturating_sub-n-end.ensures))) ∙ c.loop-n.invariant
