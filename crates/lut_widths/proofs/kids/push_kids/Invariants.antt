use Rattle.std.proofs.Common.{◌≡◌, ◌++◌, map, take}
use Rattle.lut_widths.proofs.kids.push_kids.Given as goal

abbrev pub invariant-loop-kid : goal.invariant-loop-kid
invariant-loop-kid l = map (λ k. k.now) l.kids.items ≡ map (λ k. k.now) l.initial.kids.items ++ take l.kid-index l.kid-items
