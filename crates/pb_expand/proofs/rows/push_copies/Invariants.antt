use Rattle.pb_expand.proofs.Copies.{Copied}
use Rattle.pb_expand.proofs.rows.push_copies.Given as goal

abbrev pub invariant-loop-instance : goal.invariant-loop-instance
invariant-loop-instance l = Copied l.fn.rows.items l.rows.items l.step l.kid.kind l.instance l.kid.count
