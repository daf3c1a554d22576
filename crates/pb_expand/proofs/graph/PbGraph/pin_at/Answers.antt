use Rattle.std.proofs.lemmas.Option.{slice_get-get_or}
use Rattle.pb_expand.specs.Tied.{graph_of}
use Rattle.pb_expand.specs.Graph.{pin_at}
use Rattle.pb_expand.proofs.Insides.{pin_pb}
use Rattle.pb_expand.proofs.graph.PbGraph.pin_at.Goals as goal

pub returns-clause-inside : goal.returns-clause-inside
returns-clause-inside c =
    let known = rw (← c.self.view_is) at c.requires in
    rw (c.as_slice.ensures.keys, ← c.self.view_is)
    (pin_pb (graph_of c.self.inside) c.args.pin.0 _ c.self.invariant.law.has_pins
    (slice_get-get_or c.self.inside.pins.keys c.args.pin.0 (pin_at 0 0 0) known))
