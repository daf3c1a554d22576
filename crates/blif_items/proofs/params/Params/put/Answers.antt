use Rattle.std.proofs.Common.{arith}
use Rattle.blif_items.proofs.Putting.{sets_known, pushes_new}
use Rattle.blif_items.proofs.params.Params.put.Goals as goal

pub returns-then-at-len : goal.returns-then-at-len
returns-then-at-len c = λ ps holds.
    sets_known ps c.args.self.now _ c.args.name.now c.args.value.now c.in_ok-kept.kept c.in_ok-given.given c.in_ok-number.number holds c.in_ok-number.ensures (omega (arith, c.if-at-len.true, c.len.ensures)) c.set.ensures
    c.in_ok-kept.ensures c.in_ok-given.ensures

pub returns : goal.returns
returns c = λ ps holds.
    pushes_new ps c.args.self.now _ c.args.name.now c.args.value.now c.in_ok-kept.kept c.in_ok-given.given c.in_ok-number.number holds c.in_ok-number.ensures (omega (arith, c.if-at-len.false, c.len.ensures)) c.in_ok-push.ensures.ok
    c.in_ok-kept.ensures c.in_ok-given.ensures
