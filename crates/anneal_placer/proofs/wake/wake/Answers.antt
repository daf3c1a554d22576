-- The nets of the block are nets, and they name blocks.
use Rattle.std.proofs.Common.{arith, length}
use Rattle.anneal_placer.specs.Task.{nets_of}
use Rattle.anneal_placer.proofs.Nets.{named_at, net_here, net_in}
use Rattle.anneal_placer.proofs.wake.wake.Goals as goal

pub index-net-requires : goal.index-net-requires
index-net-requires c =
    let inside = net_in c.args.task.now.nets.items c.args.nets.now.of.items (length c.args.task.now.blocks.items) c.args.block c.loop-net.net-index c.index.result.now c.deref-net-items.result.now
    c.requires.nets c.requires.block c.index.ensures c.deref-net-items.ensures.value c.loop-net-test.true in
    omega (arith, inside, c.args.task.now.nets.ok)

pub wake_net-requires : goal.wake_net-requires
wake_net-requires c = λ k d k_in.
    let here = net_here c.args.task.now.nets.items c.args.nets.now.of.items (length c.args.task.now.blocks.items) c.args.block c.loop-net.net-index c.index.result.now c.deref-net-items.result.now c.index-net.result.now
    c.requires.nets c.requires.block c.index.ensures c.deref-net-items.ensures.value c.loop-net-test.true c.index-net.ensures in
    let named = named_at (nets_of c.args.task.now) (length c.args.task.now.blocks.items) _ c.index-net.result.now.items c.requires.named here.inside here.net_is in
    let below = rw (← c.deref.ensures.value) at named in
    omega (arith, below k d k_in, c.loop-net.invariant, c.requires.active)
