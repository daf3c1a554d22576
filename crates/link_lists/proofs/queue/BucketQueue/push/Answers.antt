use Rattle.std.proofs.Common.{◌≡◌, ◌<◌, ◌≤◌, ◌+◌, ◌%◌, length, arith}
use Rattle.std.specs.Prelude.{slice_index}
use Rattle.std.proofs.lemmas.List.{get_or_read}
use Rattle.std.proofs.lemmas.Nat.{mod_below}
use Rattle.link_lists.proofs.Turning.{whole, Changes, counted_most}
use Rattle.link_lists.proofs.Queueing.{firsts_length, prev_size, first_upto, pushed_in}
use Rattle.link_lists.proofs.queue.BucketQueue.push.Goals as goal

pub index_mut-requires-4 : goal.index_mut-requires-4
index_mut-requires-4 c =
    let a = c.self.inside in
    let kept = c.self.invariant in
    let low : c.args.cost % (a.span + 1) < a.span + 1 = mod_below c.args.cost (a.span + 1) (omega arith) in
    let size = firsts_length a.span a.popped a.queued a.costs.items a.next.items a.firsts.items a.prev.items a.filled.items kept in
    let is : c.index-after.result.now ≡ slice_index a.firsts.items c.bucket_of-bucket.result =
    get_or_read a.firsts.items c.bucket_of-bucket.result c.index-after.result.now (omega (arith, low, size, c.bucket_of-bucket.ensures)) c.index-after.ensures 0 in
    let upto = first_upto a.span a.popped a.queued a.costs.items a.next.items a.firsts.items a.prev.items a.filled.items kept
    c.bucket_of-bucket.result (omega (arith, low, c.bucket_of-bucket.ensures)) in
    let longs = prev_size a.span a.popped a.queued a.costs.items a.next.items a.firsts.items a.prev.items a.filled.items kept in
    omega (arith, is, upto, longs, a.prev.ok.0)

pub invariant_of-self : goal.invariant_of-self
invariant_of-self c =
    let a = c.self.inside in
    let kept = c.self.invariant in
    let low : c.args.cost % (a.span + 1) < a.span + 1 = mod_below c.args.cost (a.span + 1) (omega arith) in
    let size = firsts_length a.span a.popped a.queued a.costs.items a.next.items a.firsts.items a.prev.items a.filled.items kept in
    let is : c.index-after.result.now ≡ slice_index a.firsts.items c.bucket_of-bucket.result =
    get_or_read a.firsts.items c.bucket_of-bucket.result c.index-after.result.now (omega (arith, low, size, c.bucket_of-bucket.ensures)) c.index-after.ensures 0 in
    let within = rw (← c.self.view_is) at c.requires.within in
    let free = rw (← c.self.view_is) at c.requires.free in
    let above = rw (← c.self.view_is) at c.requires.low in
    let below = rw (← c.self.view_is) at c.requires.high in
    let longs : length c.insert.new.words ≡ a.filled.len = omega (arith, c.insert.auto.words, c.deref_mut.ensures.len, a.filled.ok.0) in
    let filled_is = whole a.filled.len c.insert.new.words a.filled.items longs (omega (arith, a.filled.ok.0)) in
    let changes : Changes c.bucket_of-bucket.result a.filled.items c.insert.new.words = record {
      longs = omega (arith, longs, a.filled.ok.0);
      others = rw c.deref_mut.ensures.value at c.insert.ensures.others;
    } in
    let end : c.len.result ≡ length a.costs.items = omega (arith, c.len.ensures, a.costs.ok.0) in
    rw (is, filled_is, end)
    (pushed_in a.span a.popped a.queued a.costs.items a.next.items a.firsts.items a.prev.items a.filled.items kept
    c.args.i c.args.cost c.bucket_of-bucket.result c.insert.new.words within free above below c.bucket_of-bucket.ensures changes c.insert.ensures.here)

pub overflow_add-self : goal.overflow_add-self
overflow_add-self c =
    let kept = c.self.invariant in
    let most : c.self.inside.queued ≤ length c.self.inside.costs.items = omega (arith, kept.queue.counted, counted_most c.self.inside.costs.items) in
    omega (arith, most, kept.queue.bucketed.few)
