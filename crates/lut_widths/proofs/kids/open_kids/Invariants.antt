use Rattle.std.proofs.Common.{map, take}
use Rattle.lut_widths.specs.Tables.{AreOpenKids}
use Rattle.lut_widths.proofs.kids.open_kids.Given as goal

abbrev pub invariant-loop-mode : goal.invariant-loop-mode
invariant-loop-mode l = AreOpenKids (take l.mode-index l.modes) (map (λ k. k.now) l.kids.items)
