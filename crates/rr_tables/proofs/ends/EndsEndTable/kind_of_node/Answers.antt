use Rattle.std.proofs.Common.{sym}
use Rattle.rr_tables.proofs.Lookups.{node_none, node_found}
use Rattle.rr_tables.proofs.ends.EndsEndTable.kind_of_node.Goals as goal

pub returns-in_err-at : goal.returns-in_err-at
returns-in_err-at c = rw (c.from_residual.ensures, ← c.self.view_is) (sym (node_none c.self.inside.nodes c.args.id c.in_err-at.ensures))

pub returns : goal.returns
returns c = rw (← c.self.view_is) (sym (node_found c.self.inside.nodes c.args.id c.in_ok-at.at c.law.ensures.once c.in_ok-at.ensures))
