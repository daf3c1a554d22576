use Rattle.std.proofs.Common.{take, map}
use Rattle.rr_places.specs.Reading.{AreRead}
use Rattle.rr_places.specs.Types.{SaysType, type_id}
use Rattle.rr_places.proofs.types.list_types.Given as goal

abbrev pub invariant-loop-elem : goal.invariant-loop-elem
invariant-loop-elem l = AreRead (SaysType l.tiles) type_id (take l.elem-index (map (λ e. e.now) l.elems)) l.by_id.entries
