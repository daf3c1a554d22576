use Rattle.std.proofs.Common.{refl, sym}
use Rattle.prog_map.proofs.Instances.{port_there}
use Rattle.prog_map.proofs.Through.{no_inputs, through_is, through_inside}
use Rattle.prog_map.proofs.back.step_through.Goals as goal

pub is_output-requires-clause-there : goal.is_output-requires-clause-there
is_output-requires-clause-there c = port_there _ _ c.pin_at-at.result c.law.ensures c.pin_at-at.ensures.is

pub returns-in_err-inputs-clause-exact : goal.returns-in_err-inputs-clause-exact
returns-in_err-inputs-clause-exact c = rw c.from_residual.ensures (no_inputs _ _ _ c.pin_at-at.result c.pin_at-at.ensures.is c.in_err-inputs.ensures.inputs)

pub returns-clause-exact : goal.returns-clause-exact
returns-clause-exact c =
    through_is _ _ c.law.ensures _ c.pin_at-at.result c.pin_at-at.ensures.is (c.if-not-is_output.ensures.0 refl) _ _ _ c.in_ok-inputs.ensures.inputs
    c.in_ok-input.ensures (sym c.if-not-used.ensures) (c.if-not-lives.ensures.0 refl) _ c.pin_of.ensures

pub returns-clause-inside : goal.returns-clause-inside
returns-clause-inside c = through_inside _ _ _ _ _ c.pin_of.ensures
