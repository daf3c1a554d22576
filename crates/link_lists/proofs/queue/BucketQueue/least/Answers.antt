use Rattle.std.proofs.Common.{◌≡◌, ◌+◌, ◌++◌, ℕ, List, length, Option, Some, None, refl, sym, ◌∙◌, ap, subst, arith}
use Rattle.std.specs.Prelude.{slice_index, slice_index_or}
use Rattle.std.proofs.lemmas.List.{get_or_read}
use Rattle.link_lists.specs.Bits.{IsNextAround, HasNoneIn}
use Rattle.link_lists.specs.Queued.{Queued, IsLeast, IsEmpty}
use Rattle.link_lists.proofs.Arrays.{first_read}
use Rattle.link_lists.proofs.Turning.{none_marked, first_is_least, first_is_queued}
use Rattle.link_lists.proofs.Queueing.{firsts_length}
use Rattle.link_lists.proofs.queue.BucketQueue.least.Goals as goal

pub returns-in_default : goal.returns-in_default
returns-in_default c =
    let a = c.self.inside in
    let kept = c.self.invariant in
    let none : HasNoneIn a.filled.items 0 = rw c.deref.ensures.value at c.in_default.ensures in
    subst IsEmpty c.self.view_is (none_marked a.span a.popped a.costs.items (a.next.items ++ a.firsts.items) kept.places a.filled.items
    kept.queue.bucketed kept.queue.filled none)

pub returns-in-Some-cost_at : goal.returns-in-Some-cost_at
returns-in-Some-cost_at c =
    let a = c.self.inside in
    let kept = c.self.invariant in
    let around : IsNextAround a.filled.items c.bucket_of-from.result c.in-Some.bucket = rw c.deref.ensures.value at c.in-Some.ensures in
    let inside = (kept.queue.filled.only c.in-Some.bucket around.member).0 in
    let size = firsts_length a.span a.popped a.queued a.costs.items a.next.items a.firsts.items a.prev.items a.filled.items kept in
    let is : c.index-item.result.now ≡ slice_index (a.next.items ++ a.firsts.items) (length a.costs.items + c.in-Some.bucket) =
    get_or_read a.firsts.items c.in-Some.bucket c.index-item.result.now (omega (arith, inside, size)) c.index-item.ensures 0
    ∙ sym (first_read a.next.items a.firsts.items (length a.costs.items) c.in-Some.bucket kept.written.next_length) in
    let queued : slice_index_or a.costs.items c.index-item.result.now None ≡ Some c.in-Some-cost_at.cost =
    ap (λ (xs : List (Option ℕ)). slice_index_or xs c.index-item.result.now None) (sym c.as_slice.ensures.value)
    ∙ sym c.cost_at.ensures ∙ c.in-Some-cost_at.is in
    subst (λ (q : Queued). IsLeast q c.index-item.result.now c.in-Some-cost_at.cost) c.self.view_is
    (rw is (first_is_least a.span a.popped a.costs.items (a.next.items ++ a.firsts.items) kept.places a.filled.items kept.queue.bucketed kept.queue.filled
    _ c.in-Some.bucket (length a.costs.items + c.in-Some.bucket) c.bucket_of-from.ensures around refl
    c.in-Some-cost_at.cost (rw is at queued)))

pub returns-in-None : goal.returns-in-None
returns-in-None c =
    let a = c.self.inside in
    let kept = c.self.invariant in
    let around : IsNextAround a.filled.items c.bucket_of-from.result c.in-Some.bucket = rw c.deref.ensures.value at c.in-Some.ensures in
    let inside = (kept.queue.filled.only c.in-Some.bucket around.member).0 in
    let size = firsts_length a.span a.popped a.queued a.costs.items a.next.items a.firsts.items a.prev.items a.filled.items kept in
    let is : c.index-item.result.now ≡ slice_index (a.next.items ++ a.firsts.items) (length a.costs.items + c.in-Some.bucket) =
    get_or_read a.firsts.items c.in-Some.bucket c.index-item.result.now (omega (arith, inside, size)) c.index-item.ensures 0
    ∙ sym (first_read a.next.items a.firsts.items (length a.costs.items) c.in-Some.bucket kept.written.next_length) in
    let free : slice_index_or a.costs.items c.index-item.result.now None ≡ None =
    ap (λ (xs : List (Option ℕ)). slice_index_or xs c.index-item.result.now None) (sym c.as_slice.ensures.value)
    ∙ sym c.cost_at.ensures ∙ c.in-None.is in
    absurd (first_is_queued a.span a.popped a.costs.items (a.next.items ++ a.firsts.items) kept.places a.filled.items kept.queue.bucketed kept.queue.filled
    _ c.in-Some.bucket (length a.costs.items + c.in-Some.bucket) c.bucket_of-from.ensures around refl
    (rw is at free))
