use Rattle.fasm_text.proofs.Cuts.{untrue}
use Rattle.fasm_text.proofs.Fielding.{not_plain}
use Rattle.fasm_text.proofs.field.plain.Goals as goal

pub returns-then-not-is_feature_name : goal.returns-then-not-is_feature_name
returns-then-not-is_feature_name c =
    not_plain c.args.text.now c.requires (λ name. untrue _ c.if-not-is_feature_name.true (c.is_feature_name.ensures.1 name))
