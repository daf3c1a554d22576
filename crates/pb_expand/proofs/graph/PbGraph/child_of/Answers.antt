use Rattle.std.proofs.Common.{arith}
use Rattle.std.proofs.lemmas.Option.{slice_get_within}
use Rattle.pb_expand.specs.Graph.{step_from}
use Rattle.pb_expand.proofs.RowLemmas.{length-addresses, row_is, row_says}
use Rattle.pb_expand.proofs.graph.PbGraph.child_of.Goals as goal

pub returns-in_err-row : goal.returns-in_err-row
returns-in_err-row c =
    rw (c.from_residual.ensures, ← c.self.view_is)
    (λ n leads.
    let row = row_is c.self.inside.root c.self.inside.rows.keys (step_from c.args.pb.0 c.args.mode c.args.child c.args.instance) n
    c.self.invariant.tree c.self.invariant.law.numbering leads in
    c.in_err-row.ensures row.0 row.2)

pub overflow_cast-result : goal.overflow_cast-result
overflow_cast-result c =
    omega (
      arith,
      length-addresses c.self.inside.rows.keys,
      c.self.invariant.law.few_instances,
      slice_get_within c.self.inside.rows.keys c.in_ok-row.row (step_from c.args.pb.0 c.args.mode c.args.child c.args.instance) c.in_ok-row.ensures,
    )

pub overflow_add-result : goal.overflow_add-result
overflow_add-result c =
    omega (
      arith,
      length-addresses c.self.inside.rows.keys,
      c.self.invariant.law.few_instances,
      slice_get_within c.self.inside.rows.keys c.in_ok-row.row (step_from c.args.pb.0 c.args.mode c.args.child c.args.instance) c.in_ok-row.ensures,
    )

pub returns : goal.returns
returns c =
    rw (← c.self.view_is)
    (row_says c.self.inside.rows.keys c.in_ok-row.row (step_from c.args.pb.0 c.args.mode c.args.child c.args.instance) c.self.invariant.tree c.in_ok-row.ensures)
