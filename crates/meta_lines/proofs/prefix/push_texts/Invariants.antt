use Rattle.std.proofs.Common.{◌≡◌, ◌++◌, map, take}
use Rattle.meta_lines.proofs.prefix.push_texts.Given as goal

abbrev pub invariant-loop-word : goal.invariant-loop-word
invariant-loop-word l = l.texts.items ≡ l.initial.texts.items ++ map (λ w. w.now) (take l.word-index l.words)
