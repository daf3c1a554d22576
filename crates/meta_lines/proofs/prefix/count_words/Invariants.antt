use Rattle.std.proofs.Common.{◌≡◌, map, take, length}
use Rattle.std.specs.List.{flat_map}
use Rattle.meta_parts.specs.Seen.{seen}
use Rattle.meta_parts.specs.Words.{words_of}
use Rattle.meta_lines.proofs.prefix.count_words.Given as goal

abbrev pub invariant-loop-line : goal.invariant-loop-line
invariant-loop-line l = l.count ≡ length (flat_map (λ line. words_of line.text) (map seen (take l.line-index l.lines)))
