use Rattle.std.proofs.Common.{◌≡◌, ap, subst, sym}
use Rattle.mode_edges.specs.Pairs.{edges_in, row, rows, with_edges, SameEnds}
use Rattle.mode_edges.specs.Walks.{pins_left}
use Rattle.mode_edges.proofs.Gathering.{adding_starts, adding_stops}
use Rattle.mode_edges.proofs.Sources.{first_to_none, first_known, then_others, none_in}
use Rattle.mode_edges.proofs.found.add_complete.Goals as goal

pub returns-in_default-2 : goal.returns-in_default-2
returns-in_default-2 c =
    let all = rows c.args.inter (pins_left c.args.ins) (pins_left c.args.outs) in
    adding_stops c.args.most (edges_in c.args.found.now) (edges_in c.args.found.now) all (row c.args.inter c.in-Some.first (pins_left c.args.outs))
    (rows c.args.inter (pins_left c.next_pin.new.self) (pins_left c.args.outs)) all
    (ap (λ l. rows c.args.inter l (pins_left c.args.outs)) c.in-Some.ensures) (adding_starts c.args.most (edges_in c.args.found.now) all)
    (rw c.in_default-2.is at c.in_ok-ends.ensures)

pub returns-then-is_empty : goal.returns-then-is_empty
returns-then-is_empty c =
    let made = rw c.in-Some-2.is at c.in_ok-ends.ensures in
    first_to_none c.args.most c.args.inter (edges_in c.args.found.now) (edges_in c.add_first.new.found) (pins_left c.args.ins) (pins_left c.next_pin.new.self)
    (pins_left c.args.outs) c.in-Some-2.ends.keys c.in-Some.first c.in-Some.ensures made.0
    (none_in c.in-Some-2.ends.keys (c.is_empty.ensures.0 c.if-is_empty.true)) made.1

pub add_others-requires : goal.add_others-requires
add_others-requires c =
    let made = rw c.in-Some-2.is at c.in_ok-ends.ensures in
    subst (λ l. with_edges (edges_in c.add_first.new.found) (row c.args.inter c.in-Some.first l) ≡ edges_in c.add_first.new.found) (sym c.as_slice.ensures.keys)
    (first_known c.args.inter (edges_in c.args.found.now) (edges_in c.add_first.new.found) (pins_left c.args.outs) c.in-Some-2.ends.keys c.in-Some.first made.0 made.1.0)

pub returns : goal.returns
returns c =
    let made = rw c.in-Some-2.is at c.in_ok-ends.ensures in
    then_others c.args.most c.args.inter (edges_in c.args.found.now) (edges_in c.add_first.new.found) (edges_in c.add_others.new.found) (pins_left c.args.ins)
    (pins_left c.next_pin.new.self) (pins_left c.args.outs) c.as_slice.result.now c.in-Some.first c.in_ok-add_others.field-0 c.in-Some.ensures
    (subst (λ l. SameEnds l (pins_left c.args.outs)) (sym c.as_slice.ensures.keys) made.0) made.1 c.in_ok-add_others.ensures
