use Rattle.std.proofs.Common.{◌+◌, ◌∷◌, [], get_or, drop}
use Rattle.mode_edges.specs.Pairs.{edges_in, row}
use Rattle.mode_edges.proofs.Gathering.{edge, row_at, adding_stops, one_too_many, said_no}
use Rattle.mode_edges.proofs.found.add_row.Goals as goal

pub returns-then-not-branch : goal.returns-then-not-branch
returns-then-not-branch c =
    let i = c.loop-dst.dst-index in
    let e = edge c.args.inter c.args.src (get_or c.args.ends.now i _) in
    adding_stops c.args.most (edges_in c.args.found.now) (edges_in c.loop-dst.found) (row c.args.inter c.args.src c.args.ends.now) (e ∷ [])
    (row c.args.inter c.args.src (drop (i + 1) c.args.ends.now)) (row c.args.inter c.args.src (drop i c.args.ends.now))
    (row_at c.args.inter c.args.src c.args.ends.now i _ c.loop-dst-test.true) c.loop-dst.invariant
    (one_too_many c.args.most (edges_in c.loop-dst.found) (edges_in c.add_pair.new.found) e c.in_ok-add_pair.ensures.added
    (said_no c.in_ok-add_pair.field-0 c.in_ok-add_pair.ensures.few c.if-not-branch.true))
