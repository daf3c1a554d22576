use Rattle.std.proofs.Common.{arith}
use Rattle.std.proofs.lemmas.Option.{slice_get_within}
use Rattle.list_laws.proofs.Members.{at_has}
use Rattle.prog_map.proofs.ends.place_of.Goals as goal

pub returns : goal.returns
returns c has =
    let place = at_has c.args.nodes.now c.args.node has in
    let inside = slice_get_within c.args.nodes.now place.0 c.args.node place.1 in
    c.loop-at.invariant place.0 (omega (arith, inside, c.loop-at-test.false)) place.1
