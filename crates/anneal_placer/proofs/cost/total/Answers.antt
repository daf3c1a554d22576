-- One more net.
use Rattle.std.proofs.Common.{[], length, arith}
use Rattle.anneal_placer.specs.Cost.{net_cost}
use Rattle.anneal_placer.specs.Task.{nets_of}
use Rattle.anneal_placer.proofs.Nets.{in_nets, named_at, net_at, sum_step}
use Rattle.anneal_placer.proofs.cost.total.Goals as goal

pub net_cost-requires-clause-blocks : goal.net_cost-requires-clause-blocks
net_cost-requires-clause-blocks c =
    let is = net_at c.args.task.now.nets.items c.deref-net-items.result.now c.loop-net.net-index c.net-item.result c.deref-net-items.ensures.value c.loop-net-test.true c.net-item.is in
    let inside = in_nets c.args.task.now.nets.items c.deref-net-items.result.now c.loop-net.net-index c.deref-net-items.ensures.value c.loop-net-test.true in
    rw (c.deref-in-loop-net.ensures.value, c.requires.placed.each) (named_at (nets_of c.args.task.now) (length c.args.task.now.blocks.items) c.loop-net.net-index c.net-item.result.items c.requires.named inside is)

pub loop-net-preserved : goal.loop-net-preserved
loop-net-preserved c =
    let is = net_at c.args.task.now.nets.items c.deref-net-items.result.now c.loop-net.net-index c.net-item.result c.deref-net-items.ensures.value c.loop-net-test.true c.net-item.is in
    let inside = in_nets c.args.task.now.nets.items c.deref-net-items.result.now c.loop-net.net-index c.deref-net-items.ensures.value c.loop-net-test.true in
    let value = rw (c.deref.ensures.value, c.deref-in-loop-net.ensures.value) at c.net_cost.ensures.value in
    record {
      is = sum_step (net_cost c.args.task.now.sites.items c.args.places.now) (nets_of c.args.task.now) c.loop-net.net-index c.loop-net.sum c.net_cost.result c.net-item.result.items [] c.loop-net.invariant.is inside is value;
      small = omega (arith, c.loop-net.invariant.small, c.net_cost.ensures.small);
    }
