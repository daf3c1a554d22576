use Rattle.place_match.specs.Tables.{ArePairs}
use Rattle.place_match.proofs.chains.Chains.pairs_of.Given as goal

abbrev pub invariant-loop-link : goal.invariant-loop-link
invariant-loop-link l = ArePairs l.self.kinds.items l.links l.link-index l.pairs.items
