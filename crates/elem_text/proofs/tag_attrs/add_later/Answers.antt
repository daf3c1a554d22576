use Rattle.elem_text.proofs.Later.{later_more}
use Rattle.elem_text.proofs.tag_attrs.add_later.Goals as goal

pub returns : goal.returns
returns c = λ a e. later_more c.args.attrs.now c.args.later.now c.insert.new.self c.args.name c.requires c.if-attrs-lt-FEW.false c.in_ok-insert.ensures.updates a e
