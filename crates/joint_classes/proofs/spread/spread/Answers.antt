use Rattle.std.proofs.Common.{◌<◌, ℕ, length, slice_get, sym, ap, ◌∙◌, arith}
use Rattle.joint_classes.proofs.Spreading.{number_low, goes_on, spread_all, next_low, prev_low}
use Rattle.joint_classes.proofs.spread.spread.Goals as goal

pub group-requires : goal.group-requires
group-requires c =
    let inside : c.members.at < length c.members.members.items = omega (arith, c.len.ensures, c.members-test.true) in
    let low = number_low c.args.nexts.now c.args.prevs.now c.args.root c.args.seen.now c.members.seen c.members.members.items c.members.at c.index-number.result.now c.requires.tables c.members.invariant inside in
    omega (arith, low, c.index-number.ensures, c.requires.tables.next_long)

pub push_all-requires : goal.push_all-requires
push_all-requires c k d low =
    let below = next_low c.args.nexts.now c.args.prevs.now (length c.args.seen.now) c.index-number.result.now c.group.result.now c.requires.tables c.group.ensures k d low in
    omega (arith, below, c.members.invariant.long)

pub group-requires-in-members : goal.group-requires-in-members
group-requires-in-members c =
    let inside : c.members.at < length c.members.members.items = omega (arith, c.len.ensures, c.members-test.true) in
    let low = number_low c.args.nexts.now c.args.prevs.now c.args.root c.args.seen.now c.members.seen c.members.members.items c.members.at c.index-number.result.now c.requires.tables c.members.invariant inside in
    omega (arith, low, c.index-number.ensures, c.requires.tables.prev_long)

pub push_all-requires-in-members : goal.push_all-requires-in-members
push_all-requires-in-members c k d low =
    let below = prev_low c.args.nexts.now c.args.prevs.now (length c.args.seen.now) c.index-number.result.now c.group-in-members.result.now c.requires.tables c.group-in-members.ensures k d low in
    omega (arith, below, c.members.invariant.long, c.in_ok-push_all.ensures.long)

pub members-preserved : goal.members-preserved
members-preserved c =
    let inside : c.members.at < length c.members.members.items = omega (arith, c.len.ensures, c.members-test.true) in
    goes_on c.args.nexts.now c.args.prevs.now c.args.root c.args.seen.now c.members.seen c.members.members.items c.members.at c.index-number.result.now c.requires.tables c.members.invariant inside
    c.group.result.now c.group-in-members.result.now c.push_all.new.members.items c.push_all-in-members.new.members.items c.push_all.new.seen c.push_all-in-members.new.seen
    (ap (λ (k : ℕ). slice_get c.args.nexts.now k) (sym c.index-number.ensures) ∙ c.group.ensures) (ap (λ (k : ℕ). slice_get c.args.prevs.now k) (sym c.index-number.ensures) ∙ c.group-in-members.ensures)
    c.in_ok-push_all.ensures c.in_ok-push_all-2.ensures

pub returns : goal.returns
returns c =
    spread_all c.args.nexts.now c.args.prevs.now c.args.root c.args.seen.now c.members.seen c.members.members.items c.members.at c.requires.tables c.requires.closed (omega (arith, c.len.ensures, c.members-test.false))
    c.members.invariant
