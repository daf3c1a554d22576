use Rattle.std.proofs.Common.{arith}
use Rattle.std.proofs.lemmas.Result.{err_from_is_err_and}
use Rattle.prog_text.proofs.Reading.{along_next, along_stops}
use Rattle.prog_text.proofs.read.read_prog_from.Goals as goal

pub returns-in_err-read_line-clause-refused : goal.returns-in_err-read_line-clause-refused
returns-in_err-read_line-clause-refused c =
    let p = err_from_is_err_and c.from_residual-in_err-read_line.result c.from_residual-in_err-read_line.ensures.1 in
    rw (p.1, p.2)
    (along_stops _ _ _ _ _ _ _ _ _ c.loop-line.invariant c.in-Some.ensures c.in_err-read_line.ensures.some c.in_err-read_line.ensures.refused)

pub loop-line-preserved : goal.loop-line-preserved
loop-line-preserved c =
    along_next _ _ _ _ _ _ _ _ _ _ c.loop-line.invariant c.in-Some.ensures c.in_ok-read_line.ensures.reads c.in_ok-read_line.ensures.of
    (omega (arith, c.saturating_add-number.ensures))
