use Rattle.std.proofs.Common.{sym}
use Rattle.std.proofs.lemmas.Option.{slice_get_within}
use Rattle.prog_text.proofs.line.put_site.Goals as goal

pub put_pick-requires-clause-edge : goal.put_pick-requires-clause-edge
put_pick-requires-clause-edge c =
    let into = c.requires.of.picks c.in-Pin.pin.0 c.in-Pin.mode c.in-Some-edge_of.edge.0 (sym c.in-Some-edge_of.ensures) in
    slice_get_within c.args.graph.now.edges c.in-Some-edge_of.edge.0 into.edge into.there
