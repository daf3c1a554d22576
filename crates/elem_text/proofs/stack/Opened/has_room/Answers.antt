use Rattle.std.proofs.Common.{refl}
use Rattle.elem_text.proofs.Frames.{not_empty, room_inside}
use Rattle.elem_text.proofs.stack.Opened.has_room.Goals as goal

pub returns-then-not-is_empty : goal.returns-then-not-is_empty
returns-then-not-is_empty c = (λ _. room_inside c.args.self.now.top c.args.self.now.below (not_empty _ _ c.is_empty.ensures c.if-not-is_empty.true), λ _. refl)
