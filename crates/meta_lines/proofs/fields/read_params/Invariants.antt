use Rattle.std.proofs.Common.{[], map, take}
use Rattle.meta_parts.specs.Seen.{seen}
use Rattle.meta_lines.specs.Fields.{HasParamForm, SaysNamed}
use Rattle.meta_lines.specs.Readings.{LinesSay}
use Rattle.meta_lines.proofs.fields.read_params.Given as goal

abbrev pub invariant-loop-line : goal.invariant-loop-line
invariant-loop-line l = LinesSay (SaysNamed HasParamForm (λ p. p.field.name)) [] (map seen (take l.line-index l.lines)) l.params.items
