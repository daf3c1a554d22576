use Rattle.atom_lists.proofs.telling.TaskErrorTell.tell.Goals as goal

pub returns-in-NoSuchAtom : goal.returns-in-NoSuchAtom
returns-in-NoSuchAtom c = rw (c.in-NoSuchAtom.is, ← c.from.ensures) c.put_number.ensures

pub returns-in-TooManyAtoms : goal.returns-in-TooManyAtoms
returns-in-TooManyAtoms c = rw c.in-TooManyAtoms.is c.push_str.ensures.ok
