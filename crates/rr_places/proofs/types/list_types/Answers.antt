use Rattle.std.proofs.Common.{map}
use Rattle.rr_places.specs.Reading.{IsFirstRefused, OrMemory}
use Rattle.rr_places.specs.Types.{SaysType, IsBadType, type_id}
use Rattle.rr_places.proofs.Reading.{now_at, read_next, refused_here, passed_with, or_refused}
use Rattle.rr_places.proofs.TileReading.{known_of}
use Rattle.rr_places.proofs.types.list_types.Goals as goal

pub returns-in_err-id-clause-refused : goal.returns-in_err-id-clause-refused
returns-in_err-id-clause-refused c =
    let tiles = c.args.tiles.now in
    let items = map (λ e. e.now) c.args.elems.now in
    let e = c.elem-item.result.now in
    let entries = c.loop-elem.by_id.entries in
    let error = c.in_err-id.field-0.0 in
    let at = now_at c.args.elems.now c.loop-elem.elem-index c.elem-item.result c.loop-elem-test.true c.elem-item.is in
    passed_with (OrMemory (IsFirstRefused (SaysType tiles) type_id (IsBadType tiles) items)) c.from_residual.result error c.from_residual.ensures.1
    (or_refused (IsBadType tiles entries e) (IsFirstRefused (SaysType tiles) type_id (IsBadType tiles) items) error
    (λ bad. refused_here (SaysType tiles) type_id items c.loop-elem.elem-index entries c.loop-elem.invariant (IsBadType tiles) e error at bad)
    c.in_err-id.ensures.refused)

pub add-requires-clause-new : goal.add-requires-clause-new
add-requires-clause-new c = λ other has. c.in_ok-id.ensures.said.1 (other, has)

pub loop-elem-preserved : goal.loop-elem-preserved
loop-elem-preserved c =
    let entries = c.loop-elem.by_id.entries in
    let at = now_at c.args.elems.now c.loop-elem.elem-index c.elem-item.result c.loop-elem-test.true c.elem-item.is in
    read_next (SaysType c.args.tiles.now) type_id (map (λ e. e.now) c.args.elems.now) c.loop-elem.elem-index entries c.loop-elem.invariant c.elem-item.result.now
    (c.in_ok-id.id, c.in_ok-id.block) c.add.new.map.entries at c.in_ok-id.ensures.said.0 (λ has. c.in_ok-id.ensures.said.1 (known_of entries c.in_ok-id.id has)) c.in_ok-add.ensures
