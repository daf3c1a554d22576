use Rattle.std.proofs.Common.{◌≤◌, arith}
use Rattle.least_cycle.specs.Components.{State}
use Rattle.least_cycle.proofs.Rounds.{fresh_done, done_on, ranks_are}
use Rattle.least_cycle.proofs.components.component_ranks.Goals as goal

pub loop-root-init : goal.loop-root-init
loop-root-init c = fresh_done c.args.nexts.now _ c.args.nodes c.requires.long c.in_ok-search.ensures

pub loop-root-preserved : goal.loop-root-preserved
loop-root-preserved c = done_on c.args.nexts.now c.loop-root.root c.loop-root.search c.search_from.new.self c.loop-root.invariant
    c.in_ok-search_from.ensures.search c.in_ok-search_from.ensures.no_path c.in_ok-search_from.ensures.seen c.in_ok-search_from.ensures.root_seen

pub returns : goal.returns
returns c =
    let m = c.search-2.inside in
    let s : State = record { path = m.path.items; ahead = m.ahead.items; components = m.components.items; places = m.places.items; low = m.low } in
    let done = rw (← c.search-2.view_is) at c.loop-root.invariant in
    let whole : c.args.nodes ≤ c.loop-root.root = omega arith in
    let given = rw c.deref.ensures.value at c.in_ok-ranks_of.ensures in
    rw given (ranks_are c.args.nexts.now c.args.nodes c.requires.long c.requires.nodes c.loop-root.root whole s done)
