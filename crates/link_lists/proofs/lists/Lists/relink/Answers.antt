use Rattle.std.proofs.Common.{◌≡◌, ◌∷◌, [], ◌++◌, length, set, subst, arith}
use Rattle.std.specs.Prelude.{slice_index, vec_capacity}
use Rattle.std.proofs.lemmas.List.{get_or_read}
use Rattle.link_lists.specs.Arrays.{slot_of}
use Rattle.link_lists.specs.Links.{IsLinkageInArrays}
use Rattle.link_lists.proofs.Stack.{popped}
use Rattle.link_lists.proofs.Turning.{whole}
use Rattle.link_lists.proofs.Reading.{prev_size, next_upto, place_within, last_within, relinked_in}
use Rattle.link_lists.proofs.lists.Lists.relink.Goals as goal

pub put_behind-requires : goal.put_behind-requires
put_behind-requires c =
    let a = c.self.inside in
    let last = rw (← c.self.view_is) at c.requires in
    let kept : IsLinkageInArrays a.lists a.owner.items a.next.items a.firsts.items a.prev.items (last.0 ++ c.args.i ∷ []) (vec_capacity a.unlinked) =
    subst (λ u. IsLinkageInArrays a.lists a.owner.items a.next.items a.firsts.items a.prev.items u (vec_capacity a.unlinked)) last.1 c.self.invariant in
    let within = last_within a.lists a.owner.items a.next.items a.firsts.items a.prev.items last.0 c.args.i (vec_capacity a.unlinked) kept in
    let size = prev_size a.lists a.owner.items a.next.items a.firsts.items a.prev.items (last.0 ++ c.args.i ∷ []) (vec_capacity a.unlinked) kept in
    let list_is : c.index-list.result.now ≡ slice_index a.owner.items c.args.i =
    get_or_read a.owner.items c.args.i c.index-list.result.now within c.index-list.ensures 0 in
    let before_is : c.index-before.result.now ≡ slice_index a.prev.items c.args.i =
    get_or_read a.prev.items c.args.i c.index-before.result.now (omega (arith, within, size)) c.index-before.ensures 0 in
    rw (c.deref_mut.ensures.value, c.deref_mut-2.ensures.value, list_is, before_is)
    (place_within a.lists a.owner.items a.next.items a.firsts.items a.prev.items (last.0 ++ c.args.i ∷ []) (vec_capacity a.unlinked) kept c.args.i within)

pub index_mut-requires : goal.index_mut-requires
index_mut-requires c =
    let a = c.self.inside in
    let last = rw (← c.self.view_is) at c.requires in
    let kept : IsLinkageInArrays a.lists a.owner.items a.next.items a.firsts.items a.prev.items (last.0 ++ c.args.i ∷ []) (vec_capacity a.unlinked) =
    subst (λ u. IsLinkageInArrays a.lists a.owner.items a.next.items a.firsts.items a.prev.items u (vec_capacity a.unlinked)) last.1 c.self.invariant in
    let within = last_within a.lists a.owner.items a.next.items a.firsts.items a.prev.items last.0 c.args.i (vec_capacity a.unlinked) kept in
    let size = prev_size a.lists a.owner.items a.next.items a.firsts.items a.prev.items (last.0 ++ c.args.i ∷ []) (vec_capacity a.unlinked) kept in
    let list_is : c.index-list.result.now ≡ slice_index a.owner.items c.args.i =
    get_or_read a.owner.items c.args.i c.index-list.result.now within c.index-list.ensures 0 in
    let before_is : c.index-before.result.now ≡ slice_index a.prev.items c.args.i =
    get_or_read a.prev.items c.args.i c.index-before.result.now (omega (arith, within, size)) c.index-before.ensures 0 in
    let after_is : c.index-after.result.now ≡ slice_index a.next.items c.args.i =
    get_or_read a.next.items c.args.i c.index-after.result.now (omega (arith, within, kept.written.next_length)) c.index-after.ensures 0 in
    let upto = next_upto a.lists a.owner.items a.next.items a.firsts.items a.prev.items (last.0 ++ c.args.i ∷ []) (vec_capacity a.unlinked) kept c.args.i within in
    omega (arith, after_is, upto, size, a.prev.ok.0)

pub invariant_of-self : goal.invariant_of-self
invariant_of-self c =
    let a = c.self.inside in
    let last = rw (← c.self.view_is) at c.requires in
    let kept : IsLinkageInArrays a.lists a.owner.items a.next.items a.firsts.items a.prev.items (last.0 ++ c.args.i ∷ []) (vec_capacity a.unlinked) =
    subst (λ u. IsLinkageInArrays a.lists a.owner.items a.next.items a.firsts.items a.prev.items u (vec_capacity a.unlinked)) last.1 c.self.invariant in
    let within = last_within a.lists a.owner.items a.next.items a.firsts.items a.prev.items last.0 c.args.i (vec_capacity a.unlinked) kept in
    let size = prev_size a.lists a.owner.items a.next.items a.firsts.items a.prev.items (last.0 ++ c.args.i ∷ []) (vec_capacity a.unlinked) kept in
    let list_is : c.index-list.result.now ≡ slice_index a.owner.items c.args.i =
    get_or_read a.owner.items c.args.i c.index-list.result.now within c.index-list.ensures 0 in
    let before_is : c.index-before.result.now ≡ slice_index a.prev.items c.args.i =
    get_or_read a.prev.items c.args.i c.index-before.result.now (omega (arith, within, size)) c.index-before.ensures 0 in
    let after_is : c.index-after.result.now ≡ slice_index a.next.items c.args.i =
    get_or_read a.next.items c.args.i c.index-after.result.now (omega (arith, within, kept.written.next_length)) c.index-after.ensures 0 in
    let next_size : length c.put_behind.new.next ≡ a.next.len = omega (arith, c.put_behind.auto.next, c.deref_mut.ensures.len, a.next.ok.0) in
    let firsts_size : length c.put_behind.new.firsts ≡ a.firsts.len = omega (arith, c.put_behind.auto.firsts, c.deref_mut-2.ensures.len, a.firsts.ok.0) in
    let next_is = whole a.next.len c.put_behind.new.next a.next.items next_size (omega (arith, a.next.ok.0)) in
    let firsts_is = whole a.firsts.len c.put_behind.new.firsts a.firsts.items firsts_size (omega (arith, a.firsts.ok.0)) in
    let slots : c.put_behind.new.next ++ c.put_behind.new.firsts
    ≡ set (a.next.items ++ a.firsts.items) (slot_of (length a.next.items) (slice_index a.owner.items c.args.i) (slice_index a.prev.items c.args.i)) c.args.i =
    rw (c.deref_mut.ensures.value, c.deref_mut-2.ensures.value, list_is, before_is) at c.put_behind.ensures in
    let left : c.pop.new.self.items ≡ last.0 =
    popped a.unlinked.items c.pop.new.self.items last.0 c.args.i last.1 (rw (← a.unlinked.ok.0) c.pop.ensures.rest) in
    rw (next_is, firsts_is, left, c.pop.ensures.capacity, after_is)
    (relinked_in a.lists a.owner.items a.next.items a.firsts.items a.prev.items last.0 c.args.i (vec_capacity a.unlinked) kept
    c.put_behind.new.next c.put_behind.new.firsts (omega (arith, next_size, a.next.ok.0)) slots)
