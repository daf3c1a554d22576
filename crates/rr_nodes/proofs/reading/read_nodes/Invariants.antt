use Rattle.std.proofs.Common.{map, take}
use Rattle.rr_nodes.specs.Gathering.{gathered_nodes, FitTogether}
use Rattle.rr_nodes.specs.Saying.{SaysNodes}
use Rattle.rr_nodes.proofs.reading.read_nodes.Given as goal

abbrev pub invariant-loop-elem : goal.invariant-loop-elem
invariant-loop-elem g l =
    SaysNodes (g.T.PinTable.pin_of l.pins) (take l.elem-index (map (λ e. e.now) l.elem-items)) (gathered_nodes l.found) × FitTogether l.found
