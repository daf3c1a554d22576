use Rattle.std.proofs.Common.{◌≡◌, true, false, sym, ◌∙◌}
use Rattle.run_inputs.proofs.Named.{none_more, none_at_all}
use Rattle.run_inputs.proofs.blocks.place_of.Goals as goal

pub loop-number-preserved : goal.loop-number-preserved
loop-number-preserved c =
    none_more c.args.blocks.now c.args.name.now c.loop-number.number c.index-blocks-number.result c.loop-number-test.true c.index-blocks-number.is
    c.loop-number.invariant (λ same. let no : false ≡ true = c.if-is.ensures.1 (same ∙ sym c.as_bytes.ensures.value) in cc)

pub returns : goal.returns
returns c = none_at_all c.args.blocks.now c.args.name.now c.loop-number.number c.loop-number-test.false c.loop-number.invariant
