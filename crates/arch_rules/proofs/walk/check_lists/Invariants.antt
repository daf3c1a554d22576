use Rattle.std.proofs.Common.{[], take}
use Rattle.arch_rules.specs.Within.{place_in}
use Rattle.arch_rules.specs.Taken.{Knows, KnowsLists}
use Rattle.arch_rules.specs.Walks.{AreFine}
use Rattle.arch_rules.proofs.walk.check_lists.Given as goal

abbrev pub invariant-loop-list : goal.invariant-loop-list
invariant-loop-list l = record {
  fine : AreFine (place_in l.at) [] (take l.list-index l.list-items);
  met : Knows (place_in l.at) l.names (take l.list-index l.list-items);
  lists : KnowsLists (place_in l.at) l.lists (take l.list-index l.list-items);
}
