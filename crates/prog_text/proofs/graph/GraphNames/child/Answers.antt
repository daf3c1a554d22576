use Rattle.std.proofs.Common.{◌<◌, length, refl, arith}
use Rattle.std.proofs.lemmas.Option.{slice_get_read}
use Rattle.prog_text.proofs.BlockTables.{no_such_mode, child_looked_up}
use Rattle.prog_text.proofs.graph.GraphNames.child.Goals as goal

pub returns : goal.returns
returns c =
    let kids = c.of-names.result.now.kids in
    let inside : c.args.mode < length kids.items = omega (arith, c.if-mode-len.false, c.len.ensures, kids.ok) in
    child_looked_up c.args.graph.now c.args.pb.0 c.of-names.result.now c.of-names.ensures c.args.name.now c.args.mode c.index-children.result.now
    (slice_get_read kids.items (length kids.items) c.args.mode c.index-children.result.now refl inside c.index-children.ensures) c.get.result c.get.ensures
