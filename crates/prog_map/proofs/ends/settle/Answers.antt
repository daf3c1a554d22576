use Rattle.std.proofs.Common.{◌<◌, length, arith, refl, sym, subst}
use Rattle.std.specs.Prelude.{All}
use Rattle.std.proofs.lemmas.Option.{slice_get_within}
use Rattle.list_laws.specs.Orders.{Once}
use Rattle.prog_map.specs.Ends.{GetEnd, Turns}
use Rattle.prog_map.proofs.Settling.{leads_at, stops_at, end_inside, nodes_inside, front_inside, round_inside, round_once, ends_here, ends_there, ends_round}
use Rattle.prog_map.proofs.ends.settle.Goals as goal

pub bounds : goal.bounds
bounds c = end_inside _ _ _ _ _ c.requires.walk

pub give_all-requires : goal.give_all-requires
give_all-requires c = nodes_inside _ _ _ _ _ c.requires.walk

pub bounds-last-next : goal.bounds-last-next
bounds-last-next c =
    let low = c.requires.inside.each c.args.end c.in-Some.next (leads_at _ _ _ _ _ c.requires.walk c.in-Some.is) in
    omega (arith, low, c.requires.walk.all)

pub give_all-requires-in-None-place_of : goal.give_all-requires-in-None-place_of
give_all-requires-in-None-place_of c = nodes_inside _ _ _ _ _ c.requires.walk

pub split_at-requires : goal.split_at-requires
split_at-requires c =
    let inside = slice_get_within c.args.nodes.now c.in-Some-place_of.at _ c.in-Some-place_of.ensures in omega (arith, inside)

pub give_all-requires-in-Some-place_of : goal.give_all-requires-in-Some-place_of
give_all-requires-in-Some-place_of c =
    subst (λ l. All (λ node. node < length c.args.last.now) l) (sym c.split_at.ensures.front)
    (front_inside _ _ _ _ _ c.requires.walk c.in-Some-place_of.at _ c.in-Some-place_of.ensures)

pub turn-requires-clause-inside : goal.turn-requires-clause-inside
turn-requires-clause-inside c =
    subst (λ l. All (λ node. node < length c.give_all-in-Some-place_of.new.last) l) (sym c.split_at.ensures.back)
    (round_inside _ _ _ _ _ c.requires.walk c.in-Some-place_of.at _ c.in-Some-place_of.ensures _ c.give_all-in-Some-place_of.ensures.all)

pub turn-requires-clause-once : goal.turn-requires-clause-once
turn-requires-clause-once c =
    subst (λ l. Once l) (sym c.split_at.ensures.back)
    (round_once _ _ _ _ _ c.requires.walk c.in-Some-place_of.at _ c.in-Some-place_of.ensures)

pub returns-in-None : goal.returns-in-None
returns-in-None c = ends_here _ _ _ _ _ c.requires.walk _ (stops_at _ _ _ _ _ c.requires.walk c.in-None.is) c.give_all.ensures

pub returns-in-None-place_of : goal.returns-in-None-place_of
returns-in-None-place_of c =
    ends_there _ _ _ _ _ c.requires.walk _ c.in-Some.next _ (leads_at _ _ _ _ _ c.requires.walk c.in-Some.is) c.in-None-place_of.ensures refl
    c.give_all-in-None-place_of.ensures

pub returns-in-Some-place_of : goal.returns-in-Some-place_of
returns-in-Some-place_of c =
    ends_round _ _ _ _ _ c.requires.walk c.give_all-in-Some-place_of.new.last _ c.in-Some.next c.in-Some-place_of.at
    (leads_at _ _ _ _ _ c.requires.walk c.in-Some.is) c.in-Some-place_of.ensures
    (subst (λ l. GetEnd c.args.last.now c.give_all-in-Some-place_of.new.last c.args.end l) c.split_at.ensures.front c.give_all-in-Some-place_of.ensures)
    (subst (λ l. Turns c.give_all-in-Some-place_of.new.last c.turn.new.last c.args.end l) c.split_at.ensures.back c.turn.ensures)
