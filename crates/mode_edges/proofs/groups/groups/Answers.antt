use Rattle.mode_edges.proofs.GroupsOf.{text_unnamed, text_named}
use Rattle.mode_edges.proofs.groups.groups.Goals as goal

pub returns-in_default : goal.returns-in_default
returns-in_default c =
    text_unnamed c.args.names.now.block c.args.names.now.mode c.args.role c.args.text.now c.in_ok-plain.plain.items c.as_slice.result.now
    c.in_ok-words.words.items c.as_slice-2.result.now c.in_ok-plain.ensures c.as_slice.ensures.value c.in_ok-words.ensures c.as_slice-2.ensures.value
    (rw c.in_default.is at c.in_ok-found.ensures)

pub returns : goal.returns
returns c =
    text_named c.args.names.now.block c.args.names.now.mode c.args.role c.args.text.now c.in_ok-plain.plain.items c.as_slice.result.now
    c.in_ok-words.words.items c.as_slice-2.result.now c.in-Some.found.items c.in_ok-plain.ensures c.as_slice.ensures.value c.in_ok-words.ensures c.as_slice-2.ensures.value
    (rw c.in-Some.is at c.in_ok-found.ensures)
