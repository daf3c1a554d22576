use Rattle.std.proofs.Common.{map}
use Rattle.atom_lists.proofs.Entries.{AreNumbered}
use Rattle.atom_lists.proofs.read.numbers.Given as goal

abbrev pub invariant-loop-entry : goal.invariant-loop-entry
invariant-loop-entry l = AreNumbered l.known (map (λ x. x.now) l.entries) l.entry-index l.seen l.numbers.items
