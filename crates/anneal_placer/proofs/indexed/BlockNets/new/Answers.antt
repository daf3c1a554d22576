-- One more net.
use Rattle.std.proofs.Common.{◌≡◌, ◌++◌, ap, arith, drop, length, map, subst, take}
use Rattle.std.proofs.Math.Seq.{take-append_seam}
use Rattle.std.specs.Vec.{vec_items}
use Rattle.std.proofs.lemmas.List.{length-map}
use Rattle.anneal_placer.specs.Task.{nets_of}
use Rattle.anneal_placer.proofs.Lists.{earlier, nets_more}
use Rattle.anneal_placer.proofs.Nets.{in_nets, named_at, net_at}
use Rattle.anneal_placer.proofs.indexed.BlockNets.new.Goals as goal

pub add_net-requires-clause-within : goal.add_net-requires-clause-within
add_net-requires-clause-within c = λ k d h.
    let is = net_at c.args.task.now.nets.items c.deref-net-items.result.now c.loop-number.number c.net-item.result c.deref-net-items.ensures.value c.loop-number-test.true c.net-item.is in
    let inside = in_nets c.args.task.now.nets.items c.deref-net-items.result.now c.loop-number.number c.deref-net-items.ensures.value c.loop-number-test.true in
    let named = named_at (nets_of c.args.task.now) (length c.args.task.now.blocks.items) c.loop-number.number c.net-item.result.items c.requires.named inside is in
    let below = rw (← c.deref.ensures.value) at named in
    omega (arith, below k d h, c.loop-number.invariant.each, ap length c.deref_mut.ensures.value, length-map c.loop-number.of.items vec_items)

pub add_net-requires-clause-earlier : goal.add_net-requires-clause-earlier
add_net-requires-clause-earlier c =
    rw c.deref_mut.ensures.value (earlier c.loop-number.of.items (nets_of c.args.task.now) (length c.args.task.now.blocks.items) c.loop-number.number c.loop-number.invariant)

pub loop-number-preserved : goal.loop-number-preserved
loop-number-preserved c =
    let is = net_at c.args.task.now.nets.items c.deref-net-items.result.now c.loop-number.number c.net-item.result c.deref-net-items.ensures.value c.loop-number-test.true c.net-item.is in
    let inside = in_nets c.args.task.now.nets.items c.deref-net-items.result.now c.loop-number.number c.deref-net-items.ensures.value c.loop-number-test.true in
    let adds = rw (c.deref.ensures.value, c.deref_mut.ensures.value) at c.in_ok-add_net.ensures in
    let size : length c.add_net.new.of ≡ c.loop-number.of.len =
    omega (arith, adds.each, length-map c.add_net.new.of vec_items, length-map c.loop-number.of.items vec_items, c.loop-number.of.ok) in
    let whole : take c.loop-number.of.len (c.add_net.new.of ++ drop (length c.add_net.new.of) c.loop-number.of.items) ≡ c.add_net.new.of =
    subst (λ n. take n (c.add_net.new.of ++ drop (length c.add_net.new.of) c.loop-number.of.items) ≡ c.add_net.new.of) size (take-append_seam c.add_net.new.of _) in
    rw whole
    (nets_more (nets_of c.args.task.now) (map vec_items c.loop-number.of.items) (map vec_items c.add_net.new.of) c.net-item.result.items (length c.args.task.now.blocks.items) c.loop-number.number inside is c.loop-number.invariant adds)
