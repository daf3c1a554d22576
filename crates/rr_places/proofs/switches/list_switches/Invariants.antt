use Rattle.std.proofs.Common.{take, map}
use Rattle.rr_items.specs.Switches.{SaysSwitch}
use Rattle.rr_places.specs.Reading.{AreRead}
use Rattle.rr_places.specs.Switches.{switches_of, id_of}
use Rattle.rr_places.proofs.switches.list_switches.Given as goal

abbrev pub invariant-loop-elem : goal.invariant-loop-elem
invariant-loop-elem l = AreRead SaysSwitch id_of (take l.elem-index (map (λ e. e.now) l.elems)) (switches_of l.by_id.entries)
