use Rattle.place_match.specs.Tables.{AreNumbers}
use Rattle.place_match.proofs.numbered.Numbered.of.Given as goal

abbrev pub invariant-loop-kind : goal.invariant-loop-kind
invariant-loop-kind l = AreNumbers l.list l.kind-index l.kinds.keys l.numbers.items
