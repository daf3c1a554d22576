use Rattle.std.proofs.Common.{◌≡◌, ◌≤◌, take}
use Rattle.link_lists.proofs.lists.Lists.relink_to.Given as goal

abbrev pub invariant-loop-k : goal.invariant-loop-k
invariant-loop-k l = record {
  kept : l.self ≡ record l.initial.self { unlinked = take l.k l.initial.self.unlinked };
  above : l.count ≤ l.k;
}
