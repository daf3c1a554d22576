use Rattle.std.proofs.Common.{map, length}
use Rattle.mode_edges.proofs.WordsOf.{IsLeft}
use Rattle.mode_edges.proofs.split.words.Given as goal

abbrev pub invariant-loop-rest : goal.invariant-loop-rest
invariant-loop-rest l = IsLeft l.text l.rest (map (λ w. w.now) l.found.items)

abbrev pub decreases-loop-rest : goal.decreases-loop-rest
decreases-loop-rest l = length l.rest
