use Rattle.std.proofs.Common.{sym, subst}
use Rattle.blif_items.specs.Seen.{IsOpen}
use Rattle.blif_items.proofs.Elements.{elems_more, elems_none}
use Rattle.blif_items.proofs.open.reopen.Goals as goal

pub returns-in_default-clause-whole : goal.returns-in_default-clause-whole
returns-in_default-clause-whole c = λ front all are opened.
    (let none = c.in_default.ensures front all (subst (IsOpen front all) (sym c.replace.ensures.value) opened) in
    elems_none front all c.args.elems.now.items are none.0 none.1)

pub returns-clause-whole : goal.returns-clause-whole
returns-clause-whole c = λ front all are opened.
    (let e = c.in-Some.ensures front all (subst (IsOpen front all) (sym c.replace.ensures.value) opened) in
    elems_more front all c.args.elems.now.items c.push.new.self.items e.0 c.in-Some.elem are e.1 e.2 c.in_ok-push.ensures.items)
