use Rattle.std.proofs.Common.{◌+◌, ◌++◌, [], length, get_or, drop}
use Rattle.arch_types.specs.Address.{below}
use Rattle.arch_types.proofs.TreeRows.{modes_from, kids_from}
use Rattle.pb_expand.specs.Rows.{addresses}
use Rattle.pb_expand.proofs.Copies.{Went}
use Rattle.pb_expand.proofs.rows.+push_below.Given as goal

abbrev pub decreases-push_below : goal.decreases-push_below
decreases-push_below l = length (below l.block.now.kind (get_or (addresses l.rows.now.items) l.here.0 []))

abbrev pub invariant-loop-mode : goal.invariant-loop-mode
invariant-loop-mode l =
    let here = get_or (addresses l.fn.rows.items) l.here.0 [] in
    Went l.fn.rows.items l.rows.items l.here.0 (modes_from (drop l.mode l.inside-items) l.mode here) (below l.block.kind here)

abbrev pub invariant-loop-child : goal.invariant-loop-child
invariant-loop-child l =
    let here = get_or (addresses l.fn.rows.items) l.here.0 [] in
    Went l.fn.rows.items l.rows.items l.here.0
    (kids_from (drop l.child l.kid-items) l.mode l.child here ++ modes_from (drop (l.mode + 1) l.inside-items) (l.mode + 1) here)
    (below l.block.kind here)
