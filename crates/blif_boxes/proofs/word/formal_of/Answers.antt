use Rattle.blif_boxes.proofs.Wording.{no_bit}
use Rattle.blif_boxes.proofs.word.formal_of.Goals as goal

pub returns-in_err-bit : goal.returns-in_err-bit
returns-in_err-bit c =
    rw c.from_residual.ensures
    (no_bit c.as_bytes.result.now c.args.formal.now c.in-Some.port.now c.in-Some.behind.now c.as_bytes.ensures.value c.in-Some.ensures c.in_err-bit.ensures)
