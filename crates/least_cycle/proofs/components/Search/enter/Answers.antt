use Rattle.std.proofs.Common.{◌≡◌, ◌<◌, ◌^◌, length, arith}
use Rattle.least_cycle.proofs.Entering.{enter_step, enter_step_seen}
use Rattle.least_cycle.proofs.components.Search.enter.Goals as goal

pub returns-clause-goes_on : goal.returns-clause-goes_on
returns-clause-goes_on c =
    let m = c.self.inside in
    let at_is : c.len.result ≡ length m.path.items = omega (arith, c.len.ensures, m.path.ok) in
    let ahead_is : c.len-2.result ≡ length m.ahead.items = omega (arith, c.len-2.ensures, m.ahead.ok) in
    let few : length c.group.result.now < 2 ^ 64 = c.group.type_inv.0 in
    rw (← c.self.view_is)
    (enter_step c.args.nexts.now _ (rw (← c.self.view_is) at c.requires.search) c.args.node (rw (← c.self.view_is) at c.requires.unseen) (rw (← c.self.view_is) at c.requires.reached)
    c.group.result.now c.group.ensures c.len.result c.len-2.result at_is ahead_is c.push.new.self.items c.extend_from_slice.new.self.items c.push-2.new.self.items
    c.in_ok-push.ensures.items c.in_ok-extend_from_slice.ensures.items c.in_ok-push-2.ensures.items few)

pub returns-clause-node : goal.returns-clause-node
returns-clause-node c =
    let m = c.self.inside in
    let at_is : c.len.result ≡ length m.path.items = omega (arith, c.len.ensures, m.path.ok) in
    let ahead_is : c.len-2.result ≡ length m.ahead.items = omega (arith, c.len-2.ensures, m.ahead.ok) in
    enter_step_seen c.args.nexts.now _ (rw (← c.self.view_is) at c.requires.search) c.args.node (rw (← c.self.view_is) at c.requires.unseen) (rw (← c.self.view_is) at c.requires.reached)
    c.group.result.now c.group.ensures c.len.result c.len-2.result at_is ahead_is c.push.new.self.items c.extend_from_slice.new.self.items c.push-2.new.self.items
