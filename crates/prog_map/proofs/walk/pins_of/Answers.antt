use Rattle.std.proofs.Common.{map, ap, sym, ◌∙◌}
use Rattle.std.proofs.lemmas.List.{take_more, take_all}
use Rattle.pb_expand.specs.declared.number.PinIx.{PinIx}
use Rattle.prog_map.proofs.ProgSteps.{pins_push}
use Rattle.prog_map.proofs.walk.pins_of.Goals as goal

pub loop-number-init : goal.loop-number-init
loop-number-init c = ap (λ l. map (λ (p : PinIx). p.0) l) c.new-pins.ensures.items

pub loop-number-preserved : goal.loop-number-preserved
loop-number-preserved c =
    ap (λ l. map (λ (p : PinIx). p.0) l) c.in_ok-push.ensures.items ∙ pins_push c.loop-number.pins.items _ _ c.loop-number.invariant
    ∙ sym (take_more c.args.numbers.now c.loop-number.number-index 0 c.loop-number-test.true)

pub returns : goal.returns
returns c = c.loop-number.invariant ∙ take_all c.loop-number.number-index c.args.numbers.now c.loop-number-test.false
