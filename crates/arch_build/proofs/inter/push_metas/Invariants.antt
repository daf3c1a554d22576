use Rattle.std.proofs.Common.{◌≡◌, ◌++◌, drop}
use Rattle.std.specs.List.{flat_map}
use Rattle.arch_build.specs.Said.{said_meta}
use Rattle.arch_build.proofs.inter.push_metas.Given as goal

-- what was gathered, and what is still to come, is all
abbrev pub invariant-loop-meta : goal.invariant-loop-meta
invariant-loop-meta l = l.metas ++ flat_map said_meta (drop l.meta-index l.meta-items) ≡ l.initial.metas ++ flat_map said_meta l.meta-items
