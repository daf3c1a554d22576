use Rattle.std.proofs.Common.{◌≡◌, take}
use Rattle.pb_expand.proofs.copy.copy_metas.Given as goal

abbrev pub invariant-loop-meta : goal.invariant-loop-meta
invariant-loop-meta l = l.copies ≡ take l.meta-index l.metas
