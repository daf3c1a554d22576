use Rattle.std.proofs.Common.{◌≡◌, ◌≤◌, ◌++◌, map, length}
use Rattle.atom_lists.specs.Lists.{entries_of}
use Rattle.atom_lists.proofs.read.entries.Given as goal

abbrev pub invariant-loop-line : goal.invariant-loop-line
invariant-loop-line l = record {
  all : entries_of l.bytes ≡ map (λ x. x.now) l.found.items ++ entries_of l.rest;
  few : length l.found.items ≤ 4096;
}

abbrev pub decreases-loop-line : goal.decreases-loop-line
decreases-loop-line l = length l.rest
