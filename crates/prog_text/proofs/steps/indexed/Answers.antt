use Rattle.prog_text.proofs.Descends.{out_of, no_bracket, no_end, no_index}
use Rattle.prog_text.proofs.steps.indexed.Goals as goal

pub returns-in_err-name : goal.returns-in_err-name
returns-in_err-name c = out_of _ _ c.from_residual.result c.from_residual.ensures (no_bracket c.args.text.now c.in_err-name.ensures)

pub returns-in_err-digits : goal.returns-in_err-digits
returns-in_err-digits c =
    out_of _ _ c.from_residual-in_err-digits.result c.from_residual-in_err-digits.ensures (no_end c.args.text.now _ _ c.in_ok-name.ensures c.in_err-digits.ensures)

pub returns-in_err-index : goal.returns-in_err-index
returns-in_err-index c =
    out_of _ _ c.from_residual-in_err-index.result c.from_residual-in_err-index.ensures
    (no_index c.args.text.now _ _ _ _ c.in_ok-name.ensures c.in_ok-digits.ensures c.in_err-index.ensures.is)
