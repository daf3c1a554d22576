use Rattle.tree_text.proofs.telling.TreeErrorTell.tell.Goals as goal

pub returns-in-TreeShape : goal.returns-in-TreeShape
returns-in-TreeShape c = rw (c.in-TreeShape.is, ← c.from-in-TreeShape.ensures) c.put_number-in-TreeShape.ensures
