use Rattle.std.proofs.lemmas.Result.{err_from_is_err_and}
use Rattle.blif_lines.specs.Seen.{seen, still}
use Rattle.blif_models.proofs.Along.{along_more, refused_line, refused_end, says_model}
use Rattle.blif_models.proofs.Says.{some_says, none_says}
use Rattle.blif_models.proofs.model.read_model.Goals as goal

pub returns-in_err-read_line-clause-refused : goal.returns-in_err-read_line-clause-refused
returns-in_err-read_line-clause-refused c =
    let p = err_from_is_err_and c.from_residual-in_err-read_line.result c.from_residual-in_err-read_line.ensures.1 in
    rw (p.1, p.2)
    (refused_line c.args.models.now c.args.bytes.now c.loop-reading.reading c.loop-reading.at c.in-Some.behind (seen c.in-Some.line) c.in_err-read_line.field-0.0
    (c.every_file_has_lines.ensures c.in-Some.behind.number (still c.in-Some.behind)) (some_says c.in_ok-line.field-0 (c.in-Some.line, c.in-Some.behind) _ _ c.in-Some.is c.in_ok-line.ensures.line)
    c.loop-reading.invariant c.in_err-read_line.ensures.refused)

pub loop-reading-preserved-in_ok-read_line : goal.loop-reading-preserved-in_ok-read_line
loop-reading-preserved-in_ok-read_line c =
    along_more c.args.models.now c.args.bytes.now c.loop-reading.reading c.read_line.new.self c.loop-reading.at c.in-Some.behind (seen c.in-Some.line)
    (some_says c.in_ok-line.field-0 (c.in-Some.line, c.in-Some.behind) _ _ c.in-Some.is c.in_ok-line.ensures.line) c.loop-reading.invariant
    (c.in_ok-read_line.ensures.read c.loop-reading.invariant.m c.loop-reading.invariant.holds)

pub loop-reading-preserved : goal.loop-reading-preserved
loop-reading-preserved c =
    along_more c.args.models.now c.args.bytes.now c.loop-reading.reading c.read_line.new.self c.loop-reading.at c.in-Some.behind (seen c.in-Some.line)
    (some_says c.in_ok-line.field-0 (c.in-Some.line, c.in-Some.behind) _ _ c.in-Some.is c.in_ok-line.ensures.line) c.loop-reading.invariant
    (c.in_ok-read_line.ensures.read c.loop-reading.invariant.m c.loop-reading.invariant.holds)

pub returns-in_err-end_in-clause-refused : goal.returns-in_err-end_in-clause-refused
returns-in_err-end_in-clause-refused c =
    let p = err_from_is_err_and c.from_residual-in_err-end_in.result c.from_residual-in_err-end_in.ensures.1 in
    rw (p.1, p.2)
    (refused_end c.args.models.now c.args.bytes.now c.loop-reading.reading c.loop-reading.at c.in_err-end_in.field-0.0 (none_says c.in_ok-line.field-0 _ _ c.in_default.is c.in_ok-line.ensures.line) c.loop-reading.invariant
    c.in_err-end_in.ensures.refused)

pub returns-clause-model : goal.returns-clause-model
returns-clause-model c =
    says_model c.args.models.now c.args.bytes.now c.loop-reading.reading c.loop-reading.at c.in_ok-into_parts.field-0 (none_says c.in_ok-line.field-0 _ _ c.in_default.is c.in_ok-line.ensures.line) c.loop-reading.invariant
    c.in_ok-end_in.ensures.may c.in_ok-into_parts.ensures
