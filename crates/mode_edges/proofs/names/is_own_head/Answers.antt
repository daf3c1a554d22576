use Rattle.std.proofs.Common.{IsTrue, length}
use Rattle.mode_edges.proofs.OneReading.{not_both}
use Rattle.mode_edges.proofs.Places.{own_head_by_rest, own_head_other, split_whole}
use Rattle.mode_edges.proofs.names.is_own_head.Goals as goal

pub returns-then-same_bytes-2 : goal.returns-then-same_bytes-2
returns-then-same_bytes-2 c =
    let split = c.in-Some.ensures.cases in
    own_head_by_rest (IsTrue c.same_bytes-then-same_bytes-2.result) c.args.name.now c.args.head.now c.in-Some.front.now c.in-Some.behind.now
    (λ e. not_both c.same_bytes.result (c.same_bytes.ensures.1 e) c.if-same_bytes.false)
    (split_whole c.args.head.now c.in-Some.front.now c.in-Some.behind.now (length c.args.name.now) split.1 split.2)
    (c.same_bytes-2.ensures.0 c.if-same_bytes-2.true) c.same_bytes-then-same_bytes-2.ensures

pub returns-else-same_bytes-2 : goal.returns-else-same_bytes-2
returns-else-same_bytes-2 c =
    let split = c.in-Some.ensures.cases in
    own_head_other (IsTrue c.same_bytes-2.result) c.args.name.now c.args.head.now c.in-Some.front.now c.in-Some.behind.now
    (λ e. not_both c.same_bytes.result (c.same_bytes.ensures.1 e) c.if-same_bytes.false)
    (split_whole c.args.head.now c.in-Some.front.now c.in-Some.behind.now (length c.args.name.now) split.1 split.2)
    split.3 (λ e. not_both c.same_bytes-2.result (c.same_bytes-2.ensures.1 e) c.if-same_bytes-2.false)
    (λ t. not_both c.same_bytes-2.result t c.if-same_bytes-2.false)
