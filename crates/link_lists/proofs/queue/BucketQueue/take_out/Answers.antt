use Rattle.std.proofs.Common.{◌≡◌, ◌++◌, length, set, arith}
use Rattle.std.specs.Prelude.{slice_index}
use Rattle.std.proofs.lemmas.List.{get_or_read}
use Rattle.link_lists.specs.Arrays.{slot_of}
use Rattle.link_lists.proofs.Turning.{whole, Changes, counted_less}
use Rattle.link_lists.proofs.Queueing.{prev_size, place_within, item_upto, taken_last, taken_still}
use Rattle.link_lists.proofs.queue.BucketQueue.take_out.Goals as goal

pub put_behind-requires : goal.put_behind-requires
put_behind-requires c =
    let a = c.self.inside in
    let kept = c.self.invariant in
    let within = rw (← c.self.view_is) at c.requires.within in
    let queued = rw (← c.self.view_is) at c.requires.queued in
    let size = prev_size a.span a.popped a.queued a.costs.items a.next.items a.firsts.items a.prev.items a.filled.items kept in
    let before_is : c.index-before.result.now ≡ slice_index a.prev.items c.args.i =
    get_or_read a.prev.items c.args.i c.index-before.result.now (omega (arith, within, size)) c.index-before.ensures 0 in
    let after_is : c.index-after.result.now ≡ slice_index a.next.items c.args.i =
    get_or_read a.next.items c.args.i c.index-after.result.now (omega (arith, within, kept.written.next_length)) c.index-after.ensures 0 in
    rw (c.deref_mut.ensures.value, c.deref_mut-2.ensures.value, before_is)
    (place_within a.span a.popped a.queued a.costs.items a.next.items a.firsts.items a.prev.items a.filled.items kept
    c.args.i c.args.cost c.bucket_of-bucket.result within queued c.bucket_of-bucket.ensures)

pub index_mut-requires : goal.index_mut-requires
index_mut-requires c =
    let a = c.self.inside in
    let kept = c.self.invariant in
    let within = rw (← c.self.view_is) at c.requires.within in
    let queued = rw (← c.self.view_is) at c.requires.queued in
    let size = prev_size a.span a.popped a.queued a.costs.items a.next.items a.firsts.items a.prev.items a.filled.items kept in
    let before_is : c.index-before.result.now ≡ slice_index a.prev.items c.args.i =
    get_or_read a.prev.items c.args.i c.index-before.result.now (omega (arith, within, size)) c.index-before.ensures 0 in
    let after_is : c.index-after.result.now ≡ slice_index a.next.items c.args.i =
    get_or_read a.next.items c.args.i c.index-after.result.now (omega (arith, within, kept.written.next_length)) c.index-after.ensures 0 in
    let upto = item_upto a.span a.popped a.queued a.costs.items a.next.items a.firsts.items a.prev.items a.filled.items kept
    c.args.i c.args.cost c.bucket_of-bucket.result within queued c.bucket_of-bucket.ensures in
    omega (arith, after_is, upto, size, a.prev.ok.0)

pub overflow_sub-self : goal.overflow_sub-self
overflow_sub-self c =
    let a = c.self.inside in
    let kept = c.self.invariant in
    let within = rw (← c.self.view_is) at c.requires.within in
    let queued = rw (← c.self.view_is) at c.requires.queued in
    omega (arith, kept.queue.counted, counted_less a.costs.items c.args.i c.args.cost within queued)

pub invariant_of-self : goal.invariant_of-self
invariant_of-self c =
    let a = c.self.inside in
    let kept = c.self.invariant in
    let within = rw (← c.self.view_is) at c.requires.within in
    let queued = rw (← c.self.view_is) at c.requires.queued in
    let size = prev_size a.span a.popped a.queued a.costs.items a.next.items a.firsts.items a.prev.items a.filled.items kept in
    let before_is : c.index-before.result.now ≡ slice_index a.prev.items c.args.i =
    get_or_read a.prev.items c.args.i c.index-before.result.now (omega (arith, within, size)) c.index-before.ensures 0 in
    let after_is : c.index-after.result.now ≡ slice_index a.next.items c.args.i =
    get_or_read a.next.items c.args.i c.index-after.result.now (omega (arith, within, kept.written.next_length)) c.index-after.ensures 0 in
    let next_size : length c.put_behind.new.next ≡ a.next.len = omega (arith, c.put_behind.auto.next, c.deref_mut.ensures.len, a.next.ok.0) in
    let firsts_size : length c.put_behind.new.firsts ≡ a.firsts.len = omega (arith, c.put_behind.auto.firsts, c.deref_mut-2.ensures.len, a.firsts.ok.0) in
    let next_is = whole a.next.len c.put_behind.new.next a.next.items next_size (omega (arith, a.next.ok.0)) in
    let firsts_is = whole a.firsts.len c.put_behind.new.firsts a.firsts.items firsts_size (omega (arith, a.firsts.ok.0)) in
    let slots : c.put_behind.new.next ++ c.put_behind.new.firsts
    ≡ set (a.next.items ++ a.firsts.items) (slot_of (length a.next.items) c.bucket_of-bucket.result (slice_index a.prev.items c.args.i)) (slice_index a.next.items c.args.i) =
    rw (c.deref_mut.ensures.value, c.deref_mut-2.ensures.value, before_is, after_is) at c.put_behind.ensures in
    let longs : length c.remove.new.words ≡ a.filled.len = omega (arith, c.remove.auto.words, c.deref_mut-then-after-len.ensures.len, a.filled.ok.0) in
    let filled_is = whole a.filled.len c.remove.new.words a.filled.items longs (omega (arith, a.filled.ok.0)) in
    let changes : Changes c.bucket_of-bucket.result a.filled.items c.remove.new.words = record {
      longs = omega (arith, longs, a.filled.ok.0);
      others = rw c.deref_mut-then-after-len.ensures.value at c.remove.ensures.others;
    } in
    rw (filled_is, next_is, firsts_is, before_is, after_is)
    (taken_last a.span a.popped a.queued a.costs.items a.next.items a.firsts.items a.prev.items a.filled.items kept
    c.args.i c.args.cost c.bucket_of-bucket.result within queued c.bucket_of-bucket.ensures
    c.put_behind.new.next c.put_behind.new.firsts (omega (arith, next_size, a.next.ok.0)) slots c.remove.new.words
    (omega (arith, before_is, c.if-before-len.true, c.len.ensures, a.costs.ok.0))
    (omega (arith, after_is, c.if-after-len.true, c.len-then-before-len.ensures, a.costs.ok.0)) changes c.remove.ensures.here)

pub invariant_of-self-else-after-len : goal.invariant_of-self-else-after-len
invariant_of-self-else-after-len c =
    let a = c.self.inside in
    let kept = c.self.invariant in
    let within = rw (← c.self.view_is) at c.requires.within in
    let queued = rw (← c.self.view_is) at c.requires.queued in
    let size = prev_size a.span a.popped a.queued a.costs.items a.next.items a.firsts.items a.prev.items a.filled.items kept in
    let before_is : c.index-before.result.now ≡ slice_index a.prev.items c.args.i =
    get_or_read a.prev.items c.args.i c.index-before.result.now (omega (arith, within, size)) c.index-before.ensures 0 in
    let after_is : c.index-after.result.now ≡ slice_index a.next.items c.args.i =
    get_or_read a.next.items c.args.i c.index-after.result.now (omega (arith, within, kept.written.next_length)) c.index-after.ensures 0 in
    let next_size : length c.put_behind.new.next ≡ a.next.len = omega (arith, c.put_behind.auto.next, c.deref_mut.ensures.len, a.next.ok.0) in
    let firsts_size : length c.put_behind.new.firsts ≡ a.firsts.len = omega (arith, c.put_behind.auto.firsts, c.deref_mut-2.ensures.len, a.firsts.ok.0) in
    let next_is = whole a.next.len c.put_behind.new.next a.next.items next_size (omega (arith, a.next.ok.0)) in
    let firsts_is = whole a.firsts.len c.put_behind.new.firsts a.firsts.items firsts_size (omega (arith, a.firsts.ok.0)) in
    let slots : c.put_behind.new.next ++ c.put_behind.new.firsts
    ≡ set (a.next.items ++ a.firsts.items) (slot_of (length a.next.items) c.bucket_of-bucket.result (slice_index a.prev.items c.args.i)) (slice_index a.next.items c.args.i) =
    rw (c.deref_mut.ensures.value, c.deref_mut-2.ensures.value, before_is, after_is) at c.put_behind.ensures in
    rw (next_is, firsts_is, before_is, after_is)
    (taken_still a.span a.popped a.queued a.costs.items a.next.items a.firsts.items a.prev.items a.filled.items kept
    c.args.i c.args.cost c.bucket_of-bucket.result within queued c.bucket_of-bucket.ensures
    c.put_behind.new.next c.put_behind.new.firsts (omega (arith, next_size, a.next.ok.0)) slots (λ _. omega (arith, after_is, c.if-after-len.false, c.len-then-before-len.ensures, a.costs.ok.0)))

pub invariant_of-self-else-before-len : goal.invariant_of-self-else-before-len
invariant_of-self-else-before-len c =
    let a = c.self.inside in
    let kept = c.self.invariant in
    let within = rw (← c.self.view_is) at c.requires.within in
    let queued = rw (← c.self.view_is) at c.requires.queued in
    let size = prev_size a.span a.popped a.queued a.costs.items a.next.items a.firsts.items a.prev.items a.filled.items kept in
    let before_is : c.index-before.result.now ≡ slice_index a.prev.items c.args.i =
    get_or_read a.prev.items c.args.i c.index-before.result.now (omega (arith, within, size)) c.index-before.ensures 0 in
    let after_is : c.index-after.result.now ≡ slice_index a.next.items c.args.i =
    get_or_read a.next.items c.args.i c.index-after.result.now (omega (arith, within, kept.written.next_length)) c.index-after.ensures 0 in
    let next_size : length c.put_behind.new.next ≡ a.next.len = omega (arith, c.put_behind.auto.next, c.deref_mut.ensures.len, a.next.ok.0) in
    let firsts_size : length c.put_behind.new.firsts ≡ a.firsts.len = omega (arith, c.put_behind.auto.firsts, c.deref_mut-2.ensures.len, a.firsts.ok.0) in
    let next_is = whole a.next.len c.put_behind.new.next a.next.items next_size (omega (arith, a.next.ok.0)) in
    let firsts_is = whole a.firsts.len c.put_behind.new.firsts a.firsts.items firsts_size (omega (arith, a.firsts.ok.0)) in
    let slots : c.put_behind.new.next ++ c.put_behind.new.firsts
    ≡ set (a.next.items ++ a.firsts.items) (slot_of (length a.next.items) c.bucket_of-bucket.result (slice_index a.prev.items c.args.i)) (slice_index a.next.items c.args.i) =
    rw (c.deref_mut.ensures.value, c.deref_mut-2.ensures.value, before_is, after_is) at c.put_behind.ensures in
    rw (next_is, firsts_is, before_is, after_is)
    (taken_still a.span a.popped a.queued a.costs.items a.next.items a.firsts.items a.prev.items a.filled.items kept
    c.args.i c.args.cost c.bucket_of-bucket.result within queued c.bucket_of-bucket.ensures
    c.put_behind.new.next c.put_behind.new.firsts (omega (arith, next_size, a.next.ok.0)) slots (λ head. absurd (omega (arith, before_is, c.if-before-len.false, c.len.ensures, a.costs.ok.0))))

pub remove-requires : goal.remove-requires
remove-requires c =
    let a = c.self.inside in
    let kept = c.self.invariant in
    omega (arith, c.bucket_of-bucket.ensures, c.deref_mut-then-after-len.ensures.len, a.filled.ok.0, kept.queue.filled.words_length)
