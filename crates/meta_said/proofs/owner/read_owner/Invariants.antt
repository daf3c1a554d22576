use Rattle.std.proofs.Common.{take}
use Rattle.meta_said.specs.Owners.{SaysWith}
use Rattle.meta_said.proofs.owner.read_owner.Given as goal

abbrev pub invariant-loop-meta : goal.invariant-loop-meta
invariant-loop-meta l = SaysWith l.kind l.count (take l.meta-index l.metas) l.said
