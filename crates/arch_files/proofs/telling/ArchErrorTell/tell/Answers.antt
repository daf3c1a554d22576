use Rattle.arch_files.proofs.telling.ArchErrorTell.tell.Goals as goal

pub returns-in-UnknownElement : goal.returns-in-UnknownElement
returns-in-UnknownElement c = rw (c.in-UnknownElement.is, ← c.as_str.ensures) c.put_named.ensures

pub returns-in-MissingAttr : goal.returns-in-MissingAttr
returns-in-MissingAttr c = rw (c.in-MissingAttr.is, ← c.as_str-in-MissingAttr.ensures) c.put_named-in-MissingAttr.ensures

pub returns-in-BadNumber : goal.returns-in-BadNumber
returns-in-BadNumber c = rw c.in-BadNumber.is c.put_placed-in-BadNumber.ensures

pub returns-in-Unsupported : goal.returns-in-Unsupported
returns-in-Unsupported c = rw (c.in-Unsupported.is, ← c.as_str-in-Unsupported.ensures) c.put_named-in-Unsupported.ensures

pub returns-in-NoSuchBlock : goal.returns-in-NoSuchBlock
returns-in-NoSuchBlock c = rw (c.in-NoSuchBlock.is, ← c.as_str-in-NoSuchBlock.ensures) c.put_two.ensures

pub returns-in-UnknownModel : goal.returns-in-UnknownModel
returns-in-UnknownModel c = rw (c.in-UnknownModel.is, ← c.as_str-in-UnknownModel.ensures) c.put_two-in-UnknownModel.ensures
