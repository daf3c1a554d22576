use Rattle.pb_expand.proofs.Copies.{IsCopying}
use Rattle.pb_expand.proofs.rows.push_copy.Given as goal

abbrev pub invariant-loop-place : goal.invariant-loop-place
invariant-loop-place l = IsCopying l.fn.rows.items l.rows.items l.fn.own l.fn.other.0 l.place
