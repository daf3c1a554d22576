use Rattle.fasm_text.proofs.Cuts.{untrue}
use Rattle.fasm_text.proofs.Fielding.{not_named, not_indexed}
use Rattle.fasm_text.proofs.field.read_field.Goals as goal

pub returns-then-not-is_feature_name : goal.returns-then-not-is_feature_name
returns-then-not-is_feature_name c =
    not_named c.args.text.now c.in-Some.name.now c.in-Some.behind.now c.in-Some.ensures (λ name. untrue _ c.if-not-is_feature_name.true (c.is_feature_name.ensures.1 name))

pub returns-in_err-range : goal.returns-in_err-range
returns-in_err-range c =
    rw c.from_residual.ensures (not_indexed c.args.text.now c.in-Some.name.now c.in-Some.behind.now c.in-Some.ensures c.in_err-range.ensures)
