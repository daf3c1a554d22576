use Rattle.std.proofs.Common.{arith}
use Rattle.pb_expand.proofs.RowLemmas.{length-addresses}
use Rattle.pb_expand.proofs.graph.PbGraph.pbs.Goals as goal

pub overflow_cast-result : goal.overflow_cast-result
overflow_cast-result c = omega (arith, length-addresses c.self.inside.rows.keys, c.self.invariant.law.few_instances)

pub overflow_add-result : goal.overflow_add-result
overflow_add-result c = omega (arith, length-addresses c.self.inside.rows.keys, c.self.invariant.law.few_instances)

pub returns : goal.returns
returns c = rw (← c.self.view_is) (omega (arith, length-addresses c.self.inside.rows.keys))
