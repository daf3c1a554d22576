use Rattle.std.proofs.Common.{map, ap, ◌∙◌}
use Rattle.std.proofs.lemmas.Result.{err_from_is_err_and}
use Rattle.meta_parts.specs.Seen.{seen}
use Rattle.meta_lines.specs.Features.{SaysFeatures, RefusesFeatures}
use Rattle.meta_lines.proofs.Stopping.{say_on, stop_here}
use Rattle.meta_lines.proofs.features.read_features.Goals as goal

pub loop-line-preserved : goal.loop-line-preserved
loop-line-preserved c =
    let step = c.in_ok-read_line.ensures.ok in
    say_on SaysFeatures c.as_slice-lines.result.now c.loop-line.line-index _ c.loop-line.features.items _ step.0 c.loop-line-test.true c.loop-line.invariant step.1 step.2

pub returns-in_err-read_line-clause-refused : goal.returns-in_err-read_line-clause-refused
returns-in_err-read_line-clause-refused c =
    let p = err_from_is_err_and c.from_residual-in_err-read_line.result c.from_residual-in_err-read_line.ensures.1 in
    rw (p.1, p.2) (stop_here SaysFeatures RefusesFeatures c.args.text.now c.as_slice-lines.result.now c.loop-line.line-index _ c.loop-line.features.items c.in_err-read_line.field-0.0
    c.loop-line-test.true (ap (map seen) c.as_slice-lines.ensures.value ∙ c.in_ok-said.ensures) c.loop-line.invariant c.in_err-read_line.ensures.refused)
