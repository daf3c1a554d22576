use Rattle.std.proofs.Common.{arith}
use Rattle.std.proofs.lemmas.Option.{slice_get_within}
use Rattle.pb_expand.specs.Tied.{graph_of}
use Rattle.pb_expand.specs.Graph.{pin_at}
use Rattle.pb_expand.proofs.Insides.{pin_place}
use Rattle.pb_expand.proofs.graph.PbGraph.pin_of.Goals as goal

pub returns-in_err-place : goal.returns-in_err-place
returns-in_err-place c =
    rw (c.from_residual.ensures, ← c.self.view_is)
    (λ is.
    let place = pin_place (graph_of c.self.inside) c.args.pb.0 c.args.port c.args.bit c.self.invariant.law.has_pins is in
    c.in_err-place.ensures place.0 place.1)

pub overflow_cast-result : goal.overflow_cast-result
overflow_cast-result c =
    omega (
      arith,
      c.self.invariant.law.few_pins,
      slice_get_within c.self.inside.pins.keys c.in_ok-place.place (pin_at c.args.pb.0 c.args.port c.args.bit) c.in_ok-place.ensures,
    )
