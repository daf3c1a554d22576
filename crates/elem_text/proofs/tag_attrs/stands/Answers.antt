use Rattle.std.proofs.Common.{refl}
use Rattle.elem_text.proofs.Attrs.{has_at}
use Rattle.elem_text.proofs.tag_attrs.stands.Goals as goal

pub returns-then-is : goal.returns-then-is
returns-then-is c = (λ _. has_at _ _ _ _ c.loop-attr-test.true c.attr-item.is (c.is.ensures.0 c.if-is.true), λ _. refl)
