use Rattle.std.proofs.Common.{◌<◌}
use Rattle.link_lists.specs.Links.{AreLinksInArrays}
use Rattle.link_lists.proofs.lists.link_all.Given as goal

abbrev pub invariant-loop-i : goal.invariant-loop-i
invariant-loop-i l = AreLinksInArrays l.owner (λ k. k < l.i) l.next l.firsts l.prev
