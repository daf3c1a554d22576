use Rattle.std.proofs.Common.{◌++◌, subst}
use Rattle.std.specs.Prelude.{vec_capacity}
use Rattle.link_lists.specs.Members.{IsSoundMembership}
use Rattle.link_lists.proofs.Shown.{sound}
use Rattle.link_lists.proofs.lists.Lists.law.Goals as goal

pub returns : goal.returns
returns c =
    let a = c.self.inside in
    let kept = c.self.invariant in
    subst IsSoundMembership c.self.view_is
    (sound a.lists a.owner.items (a.next.items ++ a.firsts.items) kept.places a.unlinked.items (vec_capacity a.unlinked) kept.linkage)
