use Rattle.std.proofs.Common.{◌≡◌, ◌+◌, ◌++◌, sym, ◌∙◌, subst, arith}
use Rattle.std.specs.Prelude.{slice_index, vec_capacity}
use Rattle.std.proofs.lemmas.List.{get_or_read}
use Rattle.link_lists.specs.Members.{Membership, IsFirstFrom, HasNoneFrom}
use Rattle.link_lists.proofs.Shown.{next_found, next_none}
use Rattle.link_lists.proofs.Arrays.{next_read}
use Rattle.link_lists.proofs.lists.Lists.next.Goals as goal

pub returns-then-next-len : goal.returns-then-next-len
returns-then-next-len c =
    let a = c.self.inside in
    let kept = c.self.invariant in
    let linked = rw (← c.self.view_is) at c.requires in
    let is : c.index-next.result.now ≡ slice_index (a.next.items ++ a.firsts.items) c.args.i =
    get_or_read a.next.items c.args.i c.index-next.result.now (omega (arith, linked.within, kept.written.next_length)) c.index-next.ensures 0
    ∙ sym (next_read a.next.items a.firsts.items c.args.i (omega (arith, linked.within, kept.written.next_length))) in
    subst (λ (m : Membership). IsFirstFrom m (slice_index m.owner c.args.i) (c.args.i + 1) c.index-next.result.now) c.self.view_is
    (next_found a.lists a.owner.items (a.next.items ++ a.firsts.items) kept.places a.unlinked.items (vec_capacity a.unlinked) kept.linkage
    c.args.i c.index-next.result.now linked is (omega (arith, a.owner.ok.0)))

pub returns-else-next-len : goal.returns-else-next-len
returns-else-next-len c =
    let a = c.self.inside in
    let kept = c.self.invariant in
    let linked = rw (← c.self.view_is) at c.requires in
    let is : c.index-next.result.now ≡ slice_index (a.next.items ++ a.firsts.items) c.args.i =
    get_or_read a.next.items c.args.i c.index-next.result.now (omega (arith, linked.within, kept.written.next_length)) c.index-next.ensures 0
    ∙ sym (next_read a.next.items a.firsts.items c.args.i (omega (arith, linked.within, kept.written.next_length))) in
    subst (λ (m : Membership). HasNoneFrom m (slice_index m.owner c.args.i) (c.args.i + 1)) c.self.view_is
    (next_none a.lists a.owner.items (a.next.items ++ a.firsts.items) kept.places a.unlinked.items (vec_capacity a.unlinked) kept.linkage
    c.args.i c.index-next.result.now linked is (omega (arith, a.owner.ok.0)))
