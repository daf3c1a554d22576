use Rattle.std.proofs.Common.{◌++◌, ◌∙◌, ap, arith, ◌-◌, ◌+◌, ◌/◌}
use Rattle.fasm_text.specs.Values.{low_bits}
use Rattle.fasm_text.proofs.Valuing.{low_more}
use Rattle.fasm_text.proofs.value.push_low.Goals as goal

pub loop-done-preserved : goal.loop-done-preserved
loop-done-preserved c =
    ap (λ o. o ++ low_bits (c.args.width - (c.loop-done.done + 1)) (c.loop-done.rest / 2)) c.in_ok-push.ensures.items
    ∙ (low_more c.loop-done.bits.items c.args.width c.loop-done.done c.loop-done.rest (omega arith) ∙ c.loop-done.invariant)
