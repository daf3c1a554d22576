use Rattle.std.proofs.Common.{◌≡◌, ◌<◌, length, get_or, ◌∙◌, arith}
use Rattle.std.proofs.lemmas.List.{get_or_default}
use Rattle.matching.proofs.Steps.{trail_reaches, reach_half, reach_more, some_within}
use Rattle.matching.proofs.search.reach.Goals as goal

pub returns-clause-reach : goal.returns-clause-reach
returns-clause-reach c =
    rw (c.in_ok-push.ensures.items, c.in_ok-push-2.ensures.items)
    (reach_more _ _ _ _ _ _ (reach_half _ _ _ _ _ _ c.requires.reach (some_within _ _ _ c.in-Some.is)) (c.requires.owners _ _ c.in-Some.is))

pub last_way_out-requires-clause-trail : goal.last_way_out-requires-clause-trail
last_way_out-requires-clause-trail c =
    let pair_in : c.args.pair < length c.args.rows.now.pairs.items = omega (arith, c.requires.pair, c.args.rows.now.pairs.ok) in
    let pair_is : c.index.result.now ≡ get_or c.args.rows.now.pairs.items c.args.pair (0, 0) = c.index.ensures ∙ get_or_default _ _ _ _ pair_in in
    let at_in : c.args.at < length c.args.trail.now.lefts.items = omega (arith, c.requires.at, c.args.trail.now.lefts.ok) in
    rw (c.in_ok-push.ensures.items, c.in_ok-push-2.ensures.items, c.in_ok-push-3.ensures.items)
    (trail_reaches _ _ _ _ _ _ _ _ c.args.pair c.in-Some.left c.args.at c.index.result.now c.requires.trail c.requires.reach c.requires.owners at_in pair_in
    c.requires.row pair_is c.in-Some.is c.if-seen-right.false)

pub returns-clause-trail : goal.returns-clause-trail
returns-clause-trail c =
    let pair_in : c.args.pair < length c.args.rows.now.pairs.items = omega (arith, c.requires.pair, c.args.rows.now.pairs.ok) in
    let pair_is : c.index.result.now ≡ get_or c.args.rows.now.pairs.items c.args.pair (0, 0) = c.index.ensures ∙ get_or_default _ _ _ _ pair_in in
    let at_in : c.args.at < length c.args.trail.now.lefts.items = omega (arith, c.requires.at, c.args.trail.now.lefts.ok) in
    rw (c.in_ok-push.ensures.items, c.in_ok-push-2.ensures.items, c.in_ok-push-3.ensures.items)
    (trail_reaches _ _ _ _ _ _ _ _ c.args.pair c.in-Some.left c.args.at c.index.result.now c.requires.trail c.requires.reach c.requires.owners at_in pair_in
    c.requires.row pair_is c.in-Some.is c.if-seen-right.false)
