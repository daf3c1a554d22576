use Rattle.std.proofs.Common.{refl}
use Rattle.elem_text.proofs.Frames.{not_empty, hold_inside, white_held}
use Rattle.elem_text.proofs.stack.Opened.may_hold.Goals as goal

pub returns-then-not-is_empty : goal.returns-then-not-is_empty
returns-then-not-is_empty c = (λ _. hold_inside _ _ (not_empty _ _ c.is_empty.ensures c.if-not-is_empty.true), λ _. refl)

pub returns : goal.returns
returns c = white_held _ _ _ _ _ (c.is_empty.ensures.0 c.if-not-is_empty.false) c.white.ensures c.is_empty-2.ensures
