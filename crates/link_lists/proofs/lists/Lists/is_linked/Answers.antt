use Rattle.std.proofs.Common.{◌≡◌, ◌↔◌, ◌++◌, eqb, sym, ◌∙◌, subst, arith}
use Rattle.std.specs.Prelude.{slice_index, vec_capacity, IsTrue}
use Rattle.std.proofs.lemmas.Bool.{eqb-true, eq-eqb}
use Rattle.std.proofs.lemmas.List.{get_or_read}
use Rattle.link_lists.specs.Members.{Membership, IsLinked}
use Rattle.link_lists.proofs.Shown.{leads_where_linked, linked_where_led}
use Rattle.link_lists.proofs.Reading.{prev_size, place_is, place_within}
use Rattle.link_lists.proofs.lists.Lists.is_linked.Goals as goal

pub follower-requires : goal.follower-requires
follower-requires c =
    let a = c.self.inside in
    let kept = c.self.invariant in
    let inside = rw (← c.self.view_is) at c.requires in
    let size = prev_size a.lists a.owner.items a.next.items a.firsts.items a.prev.items a.unlinked.items (vec_capacity a.unlinked) kept in
    let list_is : c.index-list.result.now ≡ slice_index a.owner.items c.args.i =
    get_or_read a.owner.items c.args.i c.index-list.result.now inside c.index-list.ensures 0 in
    let before_is : c.index-before.result.now ≡ slice_index a.prev.items c.args.i =
    get_or_read a.prev.items c.args.i c.index-before.result.now (omega (arith, inside, size)) c.index-before.ensures 0 in
    rw (c.deref.ensures.value, c.deref-2.ensures.value, list_is, before_is)
    (place_within a.lists a.owner.items a.next.items a.firsts.items a.prev.items a.unlinked.items (vec_capacity a.unlinked) kept c.args.i inside)

pub returns : goal.returns
returns c =
    let a = c.self.inside in
    let kept = c.self.invariant in
    let inside = rw (← c.self.view_is) at c.requires in
    let size = prev_size a.lists a.owner.items a.next.items a.firsts.items a.prev.items a.unlinked.items (vec_capacity a.unlinked) kept in
    let list_is : c.index-list.result.now ≡ slice_index a.owner.items c.args.i =
    get_or_read a.owner.items c.args.i c.index-list.result.now inside c.index-list.ensures 0 in
    let before_is : c.index-before.result.now ≡ slice_index a.prev.items c.args.i =
    get_or_read a.prev.items c.args.i c.index-before.result.now (omega (arith, inside, size)) c.index-before.ensures 0 in
    let place = place_is a.lists a.owner.items a.next.items a.firsts.items a.prev.items a.unlinked.items (vec_capacity a.unlinked) kept c.args.i inside in
    let is : c.follower.result ≡ slice_index (a.next.items ++ a.firsts.items) (slice_index kept.places c.args.i) =
    rw (c.deref.ensures.value, c.deref-2.ensures.value, list_is, before_is, place) at c.follower.ensures in
    subst (λ (m : Membership). IsTrue (eqb c.follower.result c.args.i) ↔ IsLinked m c.args.i) c.self.view_is (
      λ same. linked_where_led a.lists a.owner.items (a.next.items ++ a.firsts.items) kept.places a.unlinked.items (vec_capacity a.unlinked)
          kept.linkage c.args.i inside (sym is ∙ eqb-true c.follower.result c.args.i same),
      λ linked. eq-eqb c.follower.result c.args.i (is
          ∙ leads_where_linked a.lists a.owner.items (a.next.items ++ a.firsts.items) kept.places a.unlinked.items (vec_capacity a.unlinked)
          kept.linkage c.args.i linked),
    )
