use Rattle.std.proofs.Common.{◌≡◌, ◌<◌, ◌+◌, ◌-◌, length, ◌∙◌, arith}
use Rattle.std.proofs.lemmas.List.{get_or_default}
use Rattle.matching.proofs.Steps.{shift_more}
use Rattle.matching.proofs.moves.shift.Goals as goal

pub loop-at-preserved : goal.loop-at-preserved
loop-at-preserved c =
    let t = c.requires.trail in
    let s = c.loop-at.invariant in
    let at_is : c.loop-at.at ≡ (c.loop-at.at - 1) + 1 = omega arith in
    let in_lefts : c.loop-at.at < length c.args.trail.now.lefts.items = s.out.place in
    let in_rights : c.loop-at.at - 1 < length c.args.trail.now.rights.items = omega (arith, t.one_more, s.out.place) in
    let in_from : c.loop-at.at - 1 < length c.args.trail.now.from.items = omega (arith, t.one_more, t.origins, s.out.place) in
    let left_is = c.index-left.ensures ∙ get_or_default c.args.trail.now.lefts.items c.loop-at.at c.index-left.result.now 0 in_lefts in
    let behind_is =
    c.index-left_behind.ensures ∙ get_or_default c.args.trail.now.rights.items (c.loop-at.at - 1) c.index-left_behind.result.now 0 in_rights in
    let next_is = c.index-at.ensures ∙ get_or_default c.args.trail.now.from.items (c.loop-at.at - 1) c.index-at.result.now 0 in_from in
    shift_more c.args.rows.now.of.items c.args.rows.now.pairs.items c.args.owner.now c.args.place.now c.loop-at.place c.loop-at.owner
    c.args.trail.now.lefts.items c.args.trail.now.rights.items c.args.trail.now.from.items c.loop-at.right c.loop-at.at c.index-left.result.now
    c.index-left_behind.result.now c.index-at.result.now (c.loop-at.at - 1) t s at_is left_is behind_is next_is
