use Rattle.std.proofs.Common.{map, take}
use Rattle.lut_widths.specs.Fields.{IsLeast, Misfits}
use Rattle.lut_widths.specs.Tables.{AreSeen, UsesOfLines}
use Rattle.lut_widths.proofs.lines.least_misfit.Given as goal

abbrev pub invariant-loop-line : goal.invariant-loop-line
invariant-loop-line l = record {
  seen : AreSeen l.table.names (take l.line-index l.lines) l.seen.keys;
  least : IsLeast (Misfits (UsesOfLines (map (λ k. k.now) l.kids) (take l.line-index l.lines))) l.least;
}
