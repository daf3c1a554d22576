use Rattle.std.proofs.Common.{take}
use Rattle.meta_said.specs.Firsts.{LacksName}
use Rattle.meta_said.proofs.firsts.first_text.Given as goal

abbrev pub invariant-loop-meta : goal.invariant-loop-meta
invariant-loop-meta l = LacksName l.name (take l.meta-index l.metas)
