use Rattle.fasm_text.proofs.telling.FasmErrorTell.tell.Goals as goal

pub returns-in-BadFasm : goal.returns-in-BadFasm
returns-in-BadFasm c = rw (c.in-BadFasm.is, ← c.from.ensures) c.put_number.ensures

pub returns-in-ValueWide : goal.returns-in-ValueWide
returns-in-ValueWide c = rw (c.in-ValueWide.is, ← c.from-in-ValueWide.ensures) c.put_number-in-ValueWide.ensures
