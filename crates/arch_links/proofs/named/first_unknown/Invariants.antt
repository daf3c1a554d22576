use Rattle.std.proofs.Common.{drop}
use Rattle.arch_links.specs.Links.{nows, IsUnknown}
use Rattle.arch_links.proofs.Passing.{IsPassed}
use Rattle.arch_links.proofs.named.first_unknown.Given as goal

abbrev pub invariant-loop-name : goal.invariant-loop-name
invariant-loop-name l = IsPassed (IsUnknown l.known) (nows l.names) (nows (drop l.name-index l.names))
