use Rattle.prog_text.proofs.telling.ProgErrorTell.tell.Goals as goal

pub returns-in-NoSuchSite : goal.returns-in-NoSuchSite
returns-in-NoSuchSite c = rw (c.in-NoSuchSite.is, ← c.from-in-NoSuchSite.ensures) c.put_number-in-NoSuchSite.ensures

pub returns-in-TwiceSet : goal.returns-in-TwiceSet
returns-in-TwiceSet c = rw (c.in-TwiceSet.is, ← c.from-in-TwiceSet.ensures) c.put_number-in-TwiceSet.ensures
