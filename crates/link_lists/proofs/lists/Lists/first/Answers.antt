use Rattle.std.proofs.Common.{◌≡◌, ◌+◌, ◌++◌, length, refl, sym, ◌∙◌, subst, arith}
use Rattle.std.specs.Prelude.{slice_index, vec_capacity}
use Rattle.std.proofs.lemmas.List.{get_or_read}
use Rattle.link_lists.specs.Members.{Membership, IsFirstFrom, HasNoneFrom}
use Rattle.link_lists.proofs.Shown.{first_found, first_none}
use Rattle.link_lists.proofs.Arrays.{first_read}
use Rattle.link_lists.proofs.Reading.{firsts_length}
use Rattle.link_lists.proofs.lists.Lists.first.Goals as goal

pub returns-then-first-len : goal.returns-then-first-len
returns-then-first-len c =
    let a = c.self.inside in
    let kept = c.self.invariant in
    let inside = rw (← c.self.view_is) at c.requires in
    let count = firsts_length a.lists a.owner.items a.next.items a.firsts.items a.prev.items a.unlinked.items (vec_capacity a.unlinked) kept in
    let is : c.index-first.result.now ≡ slice_index (a.next.items ++ a.firsts.items) (length a.owner.items + c.args.list) =
    get_or_read a.firsts.items c.args.list c.index-first.result.now (omega (arith, inside, count)) c.index-first.ensures 0
    ∙ sym (first_read a.next.items a.firsts.items (length a.owner.items) c.args.list kept.written.next_length) in
    subst (λ (m : Membership). IsFirstFrom m c.args.list 0 c.index-first.result.now) c.self.view_is
    (first_found a.lists a.owner.items (a.next.items ++ a.firsts.items) kept.places a.unlinked.items (vec_capacity a.unlinked) kept.linkage
    c.args.list (length a.owner.items + c.args.list) c.index-first.result.now inside refl is (omega (arith, a.owner.ok.0)))

pub returns-else-first-len : goal.returns-else-first-len
returns-else-first-len c =
    let a = c.self.inside in
    let kept = c.self.invariant in
    let inside = rw (← c.self.view_is) at c.requires in
    let count = firsts_length a.lists a.owner.items a.next.items a.firsts.items a.prev.items a.unlinked.items (vec_capacity a.unlinked) kept in
    let is : c.index-first.result.now ≡ slice_index (a.next.items ++ a.firsts.items) (length a.owner.items + c.args.list) =
    get_or_read a.firsts.items c.args.list c.index-first.result.now (omega (arith, inside, count)) c.index-first.ensures 0
    ∙ sym (first_read a.next.items a.firsts.items (length a.owner.items) c.args.list kept.written.next_length) in
    subst (λ (m : Membership). HasNoneFrom m c.args.list 0) c.self.view_is
    (first_none a.lists a.owner.items (a.next.items ++ a.firsts.items) kept.places a.unlinked.items (vec_capacity a.unlinked) kept.linkage
    c.args.list (length a.owner.items + c.args.list) c.index-first.result.now inside refl is (omega (arith, a.owner.ok.0)))
