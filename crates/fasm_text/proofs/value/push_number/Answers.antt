use Rattle.std.proofs.Common.{◌++◌, ◌∙◌, ap, arith, ◌-◌, ◌+◌, ◌/◌}
use Rattle.fasm_text.specs.Values.{low_bits}
use Rattle.fasm_text.proofs.Valuing.{low_more, number_ends, number_done}
use Rattle.fasm_text.proofs.value.push_number.Goals as goal

pub loop-done-init : goal.loop-done-init
loop-done-init c = ap (λ b. b ++ low_bits 128 c.args.number) c.requires

pub loop-done-preserved : goal.loop-done-preserved
loop-done-preserved c =
    ap (λ o. o ++ low_bits (128 - (c.loop-done.done + 1)) (c.loop-done.rest / 2)) c.in_ok-push.ensures.items
    ∙ (low_more c.loop-done.bits.items 128 c.loop-done.done c.loop-done.rest (omega arith) ∙ c.loop-done.invariant)

pub returns-then-rest-eq0 : goal.returns-then-rest-eq0
returns-then-rest-eq0 c =
    number_ends c.loop-done.bits.items (low_bits 128 c.args.number) (128 - c.loop-done.done) c.loop-done.rest c.if-rest-eq0.true c.loop-done.invariant

pub returns : goal.returns
returns c =
    number_done c.loop-done.bits.items (low_bits 128 c.args.number) (128 - c.loop-done.done) c.loop-done.rest (omega arith) c.loop-done.invariant
