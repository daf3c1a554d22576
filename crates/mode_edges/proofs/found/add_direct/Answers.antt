use Rattle.std.proofs.Common.{◌∷◌, [], ap, ◌∙◌}
use Rattle.mode_edges.specs.Pairs.{edges_in, side_by_side}
use Rattle.mode_edges.specs.Walks.{pins_left}
use Rattle.mode_edges.proofs.Gathering.{edge, adding_stops, one_too_many, said_no}
use Rattle.mode_edges.proofs.found.add_direct.Goals as goal

pub returns-then-not-branch : goal.returns-then-not-branch
returns-then-not-branch c =
    let e = edge c.args.inter c.in-Some.src c.in-Some-next_pin.dst in
    adding_stops c.args.most (edges_in c.args.found.now) (edges_in c.loop-src.found) (side_by_side c.args.inter (pins_left c.args.ins) (pins_left c.args.outs)) (e ∷ [])
    (side_by_side c.args.inter (pins_left c.next_pin.new.self) (pins_left c.next_pin-in-Some.new.self))
    (side_by_side c.args.inter (pins_left c.loop-src.sources) (pins_left c.loop-src.ends))
    (ap (λ l. side_by_side c.args.inter l (pins_left c.loop-src.ends)) c.in-Some.ensures
    ∙ ap (side_by_side c.args.inter (c.in-Some.src ∷ pins_left c.next_pin.new.self)) c.in-Some-next_pin.ensures) c.loop-src.invariant
    (one_too_many c.args.most (edges_in c.loop-src.found) (edges_in c.add_pair.new.found) e c.in_ok-add_pair.ensures.added
    (said_no c.in_ok-add_pair.field-0 c.in_ok-add_pair.ensures.few c.if-not-branch.true))
