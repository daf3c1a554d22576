use Rattle.std.proofs.Common.{[], map, take}
use Rattle.meta_parts.specs.Seen.{seen}
use Rattle.meta_lines.specs.Features.{SaysFeatures}
use Rattle.meta_lines.specs.Readings.{LinesSay}
use Rattle.meta_lines.proofs.features.read_features.Given as goal

abbrev pub invariant-loop-line : goal.invariant-loop-line
invariant-loop-line l = LinesSay SaysFeatures [] (map seen (take l.line-index l.lines)) l.features.items
