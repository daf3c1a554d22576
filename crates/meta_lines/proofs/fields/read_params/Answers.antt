use Rattle.std.proofs.Common.{◌∷◌, [], map, ap, refl, ◌∙◌}
use Rattle.std.proofs.lemmas.Result.{err_from_is_err_and}
use Rattle.meta_parts.specs.Seen.{seen}
use Rattle.meta_lines.specs.declared.types.ParamField.{ParamField}
use Rattle.meta_lines.specs.Fields.{HasParamForm, SaysNamed}
use Rattle.meta_lines.proofs.Fielded.{named_stops}
use Rattle.meta_lines.proofs.Stopping.{say_on}
use Rattle.meta_lines.proofs.fields.read_params.Goals as goal

pub loop-line-preserved : goal.loop-line-preserved
loop-line-preserved c =
    let here = c.in_ok-read_param_line in
    say_on (SaysNamed HasParamForm (λ (v : ParamField). v.field.name)) c.as_slice-lines.result.now c.loop-line.line-index _ c.loop-line.params.items _ (here.field-0 ∷ []) c.loop-line-test.true
    c.loop-line.invariant (here.field-0, refl, here.ensures.form, here.ensures.named) c.in_ok-push.ensures.items

pub returns-in_err-read_param_line-clause-refused : goal.returns-in_err-read_param_line-clause-refused
returns-in_err-read_param_line-clause-refused c =
    let p = err_from_is_err_and c.from_residual-in_err-read_param_line.result c.from_residual-in_err-read_param_line.ensures.1 in
    rw (p.1, p.2) (named_stops HasParamForm (λ (v : ParamField). v.field.name) c.args.text.now c.as_slice-lines.result.now c.loop-line.line-index _ c.loop-line.params.items c.in_err-read_param_line.field-0.0
    c.loop-line-test.true (ap (map seen) c.as_slice-lines.ensures.value ∙ c.in_ok-said.ensures) c.loop-line.invariant c.in_err-read_param_line.ensures.refused)
