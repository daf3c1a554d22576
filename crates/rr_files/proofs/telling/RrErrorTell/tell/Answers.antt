use Rattle.rr_files.proofs.telling.RrErrorTell.tell.Goals as goal

pub returns-in-UnknownBlock : goal.returns-in-UnknownBlock
returns-in-UnknownBlock c = rw (c.in-UnknownBlock.is, ← c.from-in-UnknownBlock.ensures) c.put_number-in-UnknownBlock.ensures

pub returns-in-UnknownPin : goal.returns-in-UnknownPin
returns-in-UnknownPin c = rw (c.in-UnknownPin.is, ← c.as_str.ensures) c.put_two-in-UnknownPin.ensures

pub returns-in-NodeWithoutPin : goal.returns-in-NodeWithoutPin
returns-in-NodeWithoutPin c = rw (c.in-NodeWithoutPin.is, ← c.from-in-NodeWithoutPin.ensures) c.put_number-in-NodeWithoutPin.ensures
