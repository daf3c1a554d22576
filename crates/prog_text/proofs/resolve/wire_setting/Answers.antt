use Rattle.std.proofs.Common.{refl}
use Rattle.prog_text.proofs.Resolved.{wire_lacks_site, wire_no_inputs, wire_too_large, wire_named}
use Rattle.prog_text.proofs.resolve.wire_setting.Goals as goal

pub returns-in_default-lut_named-clause-lacks : goal.returns-in_default-lut_named-clause-lacks
returns-in_default-lut_named-clause-lacks c = (refl, wire_lacks_site _ _ _ c.in-Some.ensures.0 c.in_default-lut_named.ensures)

pub returns-in_default-inputs_of-clause-lacks : goal.returns-in_default-inputs_of-clause-lacks
returns-in_default-inputs_of-clause-lacks c =
    (refl, wire_no_inputs _ _ _ c.in-Some.ensures.0 _ c.in-Some-lut_named.ensures c.in_default-inputs_of.ensures.inputs)

pub returns-then-input-inputs-clause-lacks : goal.returns-then-input-inputs-clause-lacks
returns-then-input-inputs-clause-lacks c =
    (refl, wire_too_large _ _ _ _ _ _ _ c.in-Some.ensures c.in-Some-lut_named.ensures c.in-Some-inputs_of.ensures.inputs c.if-input-inputs.true)

pub returns-clause-names : goal.returns-clause-names
returns-clause-names c =
    wire_named _ _ _ _ _ _ _ c.in-Some.ensures c.in-Some-lut_named.ensures c.in-Some-inputs_of.ensures.inputs c.if-input-inputs.false c.in-Some-inputs_of.ensures.narrow
