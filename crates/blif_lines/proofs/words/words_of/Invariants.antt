use Rattle.std.proofs.Common.{length, map}
use Rattle.std.specs.Prelude.{IsUtf8}
use Rattle.blif_lines.proofs.Wording.{IsLeft}
use Rattle.blif_lines.proofs.words.words_of.Given as goal

abbrev pub invariant-loop-word : goal.invariant-loop-word
invariant-loop-word l = IsUtf8 l.rest × IsLeft l.text l.rest (map (λ w. w.now) l.found.items)

abbrev pub decreases-loop-word : goal.decreases-loop-word
decreases-loop-word l = length l.rest
