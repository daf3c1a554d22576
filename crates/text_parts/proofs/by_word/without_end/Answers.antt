use Rattle.std.proofs.Common.{◌-◌, ◌∙◌, get_or, sym, refl, arith}
use Rattle.text_parts.proofs.Trimming.{cut_here, cut_all}
use Rattle.text_parts.proofs.by_word.without_end.Goals as goal

pub returns-then-not-is_white_byte : goal.returns-then-not-is_white_byte
returns-then-not-is_white_byte c =
    cut_here c.args.text.now _ c.loop-end.end (get_or c.args.text.now (c.loop-end.end - 1) 0) c.loop-end-test.true c.loop-end.auto.end refl
    (sym c.is_white_byte.ensures ∙ c.if-not-is_white_byte.true) c.loop-end.invariant refl

pub returns : goal.returns
returns c = cut_all c.args.text.now _ c.loop-end.end (omega arith) refl c.loop-end.invariant
