use Rattle.std.proofs.Common.{◌≡◌, take}
use Rattle.pb_expand.proofs.copy.copy_inters.Given as goal

abbrev pub invariant-loop-inter : goal.invariant-loop-inter
invariant-loop-inter l = l.copies ≡ take l.inter-index l.inters
