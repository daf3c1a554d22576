use Rattle.std.proofs.Common.{[], map, take}
use Rattle.meta_parts.specs.Seen.{seen}
use Rattle.meta_lines.specs.Fields.{HasChildForm, SaysNamed}
use Rattle.meta_lines.specs.Readings.{LinesSay}
use Rattle.meta_lines.proofs.fields.read_children.Given as goal

abbrev pub invariant-loop-line : goal.invariant-loop-line
invariant-loop-line l = LinesSay (SaysNamed HasChildForm (λ c. c.field.name)) [] (map seen (take l.line-index l.lines)) l.children.items
