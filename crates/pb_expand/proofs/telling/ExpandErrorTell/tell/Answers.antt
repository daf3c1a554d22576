use Rattle.pb_expand.proofs.telling.ExpandErrorTell.tell.Goals as goal

pub returns-in-NoSuchPin : goal.returns-in-NoSuchPin
returns-in-NoSuchPin c = rw (c.in-NoSuchPin.is, ← c.as_str.ensures) c.put_two.ensures
