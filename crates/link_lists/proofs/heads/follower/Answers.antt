use Rattle.std.proofs.Common.{length, refl, sym, arith}
use Rattle.link_lists.proofs.Arrays.{slot_of-position, slot_of-head, next_read, first_read}
use Rattle.link_lists.proofs.heads.follower.Goals as goal

pub bounds-firsts-list : goal.bounds-firsts-list
bounds-firsts-list c =
    let at = slot_of-head (length c.args.next.now) c.args.list c.args.before (omega arith) in
    omega (arith, at, c.requires)

pub returns-then-before-next : goal.returns-then-before-next
returns-then-before-next c =
    rw (slot_of-position (length c.args.next.now) c.args.list c.args.before (omega arith))
    (sym (next_read c.args.next.now c.args.firsts.now c.args.before (omega arith)))

pub returns-else-before-next : goal.returns-else-before-next
returns-else-before-next c =
    rw (slot_of-head (length c.args.next.now) c.args.list c.args.before (omega arith))
    (sym (first_read c.args.next.now c.args.firsts.now (length c.args.next.now) c.args.list refl))
