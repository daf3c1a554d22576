use Rattle.std.proofs.Common.{map, length}
use Rattle.text_parts.specs.Seen.{seen}
use Rattle.text_parts.proofs.Wording.{IsLeft}
use Rattle.text_parts.proofs.by_word.words.Given as goal

abbrev pub invariant-loop-rest : goal.invariant-loop-rest
invariant-loop-rest l = IsLeft l.text l.at l.rest (map seen l.found.items)

abbrev pub decreases-loop-rest : goal.decreases-loop-rest
decreases-loop-rest l = length l.rest
