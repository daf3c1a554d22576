use Rattle.std.proofs.Common.{None, get_or, refl}
use Rattle.mode_edges.specs.declared.pin.LocalEdge.{LocalEdge}
use Rattle.pb_expand.specs.Rows.{addresses}
use Rattle.pb_expand.specs.Making.{IsPlaced, edge_at}
use Rattle.std.proofs.lemmas.Option.{slice_get-get_or}
use Rattle.pb_expand.proofs.Lists.{read_itself}
use Rattle.pb_expand.proofs.EdgeList.{adds_push}
use Rattle.pb_expand.proofs.edges.push_local.Goals as goal

abbrev no_local : LocalEdge
no_local = record { src = record { owner = None; port = 0; bit = 0 }; dst = record { owner = None; port = 0; bit = 0 }; inter = 0 }

pub place_of-src-requires-clause-there : goal.place_of-src-requires-clause-there
place_of-src-requires-clause-there c =
    let local = c.args.local.now in
    c.requires.places.src c.loop-edge.edge-index (get_or local c.loop-edge.edge-index no_local) (slice_get-get_or local c.loop-edge.edge-index no_local c.loop-edge-test.true)

pub place_of-dst-requires-clause-there : goal.place_of-dst-requires-clause-there
place_of-dst-requires-clause-there c =
    let local = c.args.local.now in
    c.requires.places.dst c.loop-edge.edge-index (get_or local c.loop-edge.edge-index no_local) (slice_get-get_or local c.loop-edge.edge-index no_local c.loop-edge-test.true)

pub loop-edge-preserved : goal.loop-edge-preserved
loop-edge-preserved c =
    let local = c.args.local.now in
    let l = get_or local c.loop-edge.edge-index no_local in
    let e = edge_at c.place_of-src.result.0 c.place_of-dst.result.0 c.args.owner.0 c.args.mode l.inter in
    let placed : IsPlaced (addresses c.args.places.now.rows.keys) c.args.places.now.pins.keys c.args.owner.0 c.args.mode l e =
    record { src = c.place_of-src.result.0; dst = c.place_of-dst.result.0; is = refl; at_src = c.place_of-src.ensures; at_dst = c.place_of-dst.ensures } in
    adds_push (addresses c.args.places.now.rows.keys) c.args.places.now.pins.keys c.args.owner.0 c.args.mode c.loop-edge.edge-index local c.args.edges.now.items
    c.loop-edge.edges.items c.push.new.self.items l e c.loop-edge.invariant c.loop-edge-test.true
    (read_itself local c.loop-edge.edge-index no_local c.loop-edge-test.true) placed c.in_ok-push.ensures.items
