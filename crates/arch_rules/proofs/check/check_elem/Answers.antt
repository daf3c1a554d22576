use Rattle.std.proofs.Common.{IsTrue}
use Rattle.arch_rules.specs.Walks.{IsFine, Refuses}
use Rattle.arch_rules.proofs.UnlessMemory.{handed, refuses_form}
use Rattle.arch_rules.proofs.check.check_elem.Goals as goal

pub returns-in_err-check_form : goal.returns-in_err-check_form
returns-in_err-check_form c =
    handed c.from_residual.result (λ _. IsFine c.args.role (IsTrue c.args.is_taken) c.args.elem.now) (λ e. Refuses c.args.role (IsTrue c.args.is_taken) c.args.elem.now e)
    c.in_err-check_form.field-0.0 c.from_residual.ensures.1 (refuses_form c.args.role (IsTrue c.args.is_taken) c.args.elem.now c.in_err-check_form.field-0.0 c.in_err-check_form.ensures)
