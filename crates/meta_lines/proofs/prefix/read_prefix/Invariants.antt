use Rattle.std.proofs.Common.{◌≡◌, map, take}
use Rattle.std.specs.List.{All, flat_map}
use Rattle.fasm_text.specs.Names.{IsFeatureName}
use Rattle.meta_parts.specs.Seen.{seen}
use Rattle.meta_parts.specs.Words.{words_of}
use Rattle.meta_lines.proofs.prefix.read_prefix.Given as goal

abbrev pub invariant-loop-line : goal.invariant-loop-line
invariant-loop-line l = (l.prefixes.items ≡ flat_map (λ line. words_of line.text) (map seen (take l.line-index l.lines))) × All IsFeatureName l.prefixes.items
