use Rattle.std.proofs.Common.{◌∷◌, [], ap}
use Rattle.mode_edges.specs.Pairs.{edges_in, row}
use Rattle.mode_edges.specs.Walks.{pins_left}
use Rattle.mode_edges.proofs.Gathering.{edge, adding_goes_on, adding_stops, adds_one, one_too_many, said_no}
use Rattle.mode_edges.proofs.Sources.{end_met}
use Rattle.mode_edges.proofs.found.add_first.Goals as goal

pub returns-then-not-branch : goal.returns-then-not-branch
returns-then-not-branch c =
    let e = edge c.args.inter c.args.src c.in-Some.dst in
    adding_stops c.args.most (edges_in c.args.found.now) (edges_in c.loop-dst.found) (row c.args.inter c.args.src (pins_left c.args.outs)) (e ∷ [])
    (row c.args.inter c.args.src (pins_left c.next_pin.new.self)) (row c.args.inter c.args.src (pins_left c.loop-dst.walk))
    (ap (row c.args.inter c.args.src) c.in-Some.ensures) c.loop-dst.invariant.adding
    (one_too_many c.args.most (edges_in c.loop-dst.found) (edges_in c.add_pair.new.found) e c.in_ok-add_pair.ensures.added
    (said_no c.in_ok-add_pair.field-0 c.in_ok-add_pair.ensures.few c.if-not-branch.true))

pub loop-dst-preserved : goal.loop-dst-preserved
loop-dst-preserved c =
    let e = edge c.args.inter c.args.src c.in-Some.dst in
    record {
      adding = adding_goes_on c.args.most (edges_in c.args.found.now) (edges_in c.loop-dst.found) (edges_in c.add_pair.new.found)
          (row c.args.inter c.args.src (pins_left c.args.outs)) (e ∷ [])
          (row c.args.inter c.args.src (pins_left c.next_pin.new.self)) (row c.args.inter c.args.src (pins_left c.loop-dst.walk))
          (ap (row c.args.inter c.args.src) c.in-Some.ensures) c.loop-dst.invariant.adding
          (adds_one c.args.most (edges_in c.loop-dst.found) (edges_in c.add_pair.new.found) e c.in_ok-add_pair.ensures.added
          (c.in_ok-add_pair.ensures.few.0 c.if-not-branch.false));
      same = end_met c.loop-dst.ends.keys c.insert.new.self.keys (pins_left c.next_pin.new.self) (pins_left c.loop-dst.walk) (pins_left c.args.outs) c.in-Some.dst
          c.in_ok-insert.ensures.keys c.in-Some.ensures c.loop-dst.invariant.same;
    }
