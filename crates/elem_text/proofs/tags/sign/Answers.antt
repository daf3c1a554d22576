use Rattle.elem_text.proofs.Flawed.{sign_ended}
use Rattle.elem_text.proofs.tags.sign.Goals as goal

pub returns-in_default-clause-flaw : goal.returns-in_default-clause-flaw
returns-in_default-clause-flaw c = sign_ended _ c.requires _ _ _ c.white.ensures c.in_default.ensures _ c.ended.ensures
