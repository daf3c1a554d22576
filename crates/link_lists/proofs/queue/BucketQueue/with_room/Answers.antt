use Rattle.std.proofs.Common.{rules, ◌≡◌, ◌+◌, ◌/◌, ℕ, Option, None, replicate, arith}
use Rattle.link_lists.proofs.Queueing.{none_in_queue}
use Rattle.link_lists.proofs.queue.BucketQueue.with_room.Goals as goal

pub invariant_of-result : goal.invariant_of-result
invariant_of-result c =
    let costs_is : c.in_ok-vec.field-0.items ≡ replicate {A = Option ℕ} c.args.items None =
    c.in_ok-vec.ensures.items_if_clones_equal (λ y e. search rules) in
    let next_is : c.in_ok-vec-2.field-0.items ≡ replicate c.args.items c.args.items =
    c.in_ok-vec-2.ensures.items_if_clones_equal (λ y e. e) in
    let firsts_is : c.in_ok-vec-3.field-0.items ≡ replicate (c.args.span + 1) c.args.items =
    c.in_ok-vec-3.ensures.items_if_clones_equal (λ y e. e) in
    let prev_is : c.in_ok-vec-4.field-0.items ≡ replicate (c.args.items + 1) c.args.items =
    c.in_ok-vec-4.ensures.items_if_clones_equal (λ y e. e) in
    let filled_is : c.in_ok-vec-5.field-0.items ≡ replicate (c.args.span / 64 + 1) 0 =
    c.in_ok-vec-5.ensures.items_if_clones_equal (λ y e. e) in
    rw (costs_is, filled_is)
    (none_in_queue c.args.items c.args.span c.in_ok-vec-2.field-0.items c.in_ok-vec-3.field-0.items c.in_ok-vec-4.field-0.items
    (omega arith) (omega arith) next_is firsts_is prev_is)
