use Rattle.std.proofs.Common.{sym, subst, Option, List}
use Rattle.std.proofs.lemmas.Bool.{OnTrue_at, OnTrue_from}
use Rattle.vtr_base.specs.Lists.{Has}
use Rattle.pb_expand.specs.declared.number.EdgeIx.{EdgeIx}
use Rattle.pb_expand.specs.Graph.{into_from}
use Rattle.task_options.specs.Choosing.{or_none}
use Rattle.first_try.proofs.Options.{of_some}
use Rattle.first_try.proofs.decide.is_edge.Goals as goal

pub returns-in-Some : goal.returns-in-Some
returns-in-Some c =
    OnTrue_from c.has_edge.result (Has (or_none (into_from 0 c.args.graph.now.edges c.args.pin.0 c.args.mode)) c.args.edge)
    (λ yes. (
    let here = OnTrue_at yes c.has_edge.ensures in
    subst (λ (e : Option EdgeIx). Has (or_none (into_from 0 c.args.graph.now.edges c.args.pin.0 c.args.mode)) e) (sym c.in-Some.is)
    (of_some (into_from 0 c.args.graph.now.edges c.args.pin.0 c.args.mode) c.in-Some.edge (subst (λ (l : List EdgeIx). Has l c.in-Some.edge) c.edges_into.ensures here))))
