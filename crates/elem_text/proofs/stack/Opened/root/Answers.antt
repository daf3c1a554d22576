use Rattle.std.proofs.Common.{inl}
use Rattle.elem_text.proofs.Frames.{not_empty, top_first_empty}
use Rattle.elem_text.proofs.stack.Opened.root.Goals as goal

pub returns-then-not-is_empty : goal.returns-then-not-is_empty
returns-then-not-is_empty c = inl (λ e. not_empty _ _ c.is_empty.ensures c.if-not-is_empty.true (top_first_empty _ e))
