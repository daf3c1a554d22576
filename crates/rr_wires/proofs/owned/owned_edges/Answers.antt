use Rattle.std.proofs.Common.{[], List, get_or, subst, sym, arith}
use Rattle.std.proofs.lemmas.Option.{slice_get-get_or}
use Rattle.list_laws.proofs.Members.{has_at}
use Rattle.rr_wires.specs.declared.types.NodeEdge.{NodeEdge}
use Rattle.rr_wires.specs.declared.types.OwnedEdge.{OwnedEdge}
use Rattle.rr_wires.proofs.OwnedPairs.{AreOwnedSoFar, none_owned, edge_step, all_owned}
use Rattle.rr_wires.proofs.owned.owned_edges.Goals as goal

abbrev no_edge : NodeEdge
no_edge = record { src = 0; dst = 0; switch = 0 }

pub loop-place-init : goal.loop-place-init
loop-place-init c =
    subst (λ (l : List OwnedEdge). AreOwnedSoFar c.args.numbers.now.nodes [] c.new-pairs.result.keys l) (sym c.new-owned.ensures.items)
    (none_owned c.args.numbers.now.nodes c.new-pairs.result.keys c.new-pairs.ensures.empty)

pub joined-redge-requires : goal.joined-redge-requires
joined-redge-requires c =
    let edges = c.args.edges.now in
    let edge = get_or edges c.loop-place.place no_edge in
    c.requires.ends edge (has_at edges c.loop-place.place edge (slice_get-get_or edges c.loop-place.place no_edge c.loop-place-test.true))

pub loop-place-preserved : goal.loop-place-preserved
loop-place-preserved c =
    edge_step c.args.numbers.now.nodes c.requires.one c.args.edges.now c.loop-place.place no_edge c.loop-place-test.true c.joined-redge.result c.joined-redge.ensures
    c.loop-place.pairs.keys c.add_owned.new.pairs.keys c.loop-place.owned.items c.add_owned.new.owned.items c.loop-place.invariant c.in_ok-add_owned.ensures

pub returns : goal.returns
returns c =
    let all = all_owned c.args.numbers.now.nodes c.args.edges.now c.loop-place.place c.loop-place.pairs.keys c.loop-place.owned.items (omega arith) c.loop-place.invariant in
    record { owned = all.owned_are; few = omega (arith, all.few, c.requires.few) }
