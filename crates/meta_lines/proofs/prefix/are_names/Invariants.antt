use Rattle.std.proofs.Common.{map, take}
use Rattle.std.specs.List.{All}
use Rattle.fasm_text.specs.Names.{IsFeatureName}
use Rattle.meta_lines.proofs.prefix.are_names.Given as goal

abbrev pub invariant-loop-word : goal.invariant-loop-word
invariant-loop-word l = All IsFeatureName (map (λ w. w.now) (take l.word-index l.words))
