use Rattle.fasm_text.proofs.Valuing.{no_number, no_gapped}
use Rattle.fasm_text.proofs.value.number.Goals as goal

pub returns-in_err-decimal-in-None : goal.returns-in_err-decimal-in-None
returns-in_err-decimal-in-None c = rw c.from_residual.ensures (no_number c.args.text.now c.requires c.in_err-decimal-in-None.ensures)

pub returns-in-Some : goal.returns-in-Some
returns-in-Some c = no_gapped c.args.text.now c.in-Some.field-0.0.now c.in-Some.field-0.1.now c.requires c.in-Some.ensures
