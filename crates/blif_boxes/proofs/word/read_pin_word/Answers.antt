use Rattle.blif_boxes.proofs.Wording.{no_equals, no_formal, no_actual}
use Rattle.blif_boxes.proofs.word.read_pin_word.Goals as goal

pub returns-in_err-formal : goal.returns-in_err-formal
returns-in_err-formal c = rw c.from_residual.ensures (no_equals c.args.word.now c.in_err-formal.ensures)

pub returns-in_err-port : goal.returns-in_err-port
returns-in_err-port c =
    rw c.from_residual-in_err-port.ensures
    (no_formal c.args.word.now c.in_ok-formal.formal.now c.in_ok-formal.actual.now c.in_ok-formal.ensures c.in_err-port.ensures)

pub returns-in_err-actual : goal.returns-in_err-actual
returns-in_err-actual c =
    rw c.from_residual-in_err-actual.ensures
    (no_actual c.args.word.now c.in_ok-formal.formal.now c.in_ok-formal.actual.now c.in_ok-formal.ensures c.in_err-actual.ensures)
