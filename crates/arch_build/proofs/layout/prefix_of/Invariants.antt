use Rattle.std.proofs.Common.{◌≡◌, codes, drop}
use Rattle.arch_build.specs.Said.{text_named}
use Rattle.arch_build.proofs.layout.prefix_of.Given as goal

-- what was gathered, and what is still to come, is all
abbrev pub invariant-loop-meta : goal.invariant-loop-meta
invariant-loop-meta l = text_named (codes "fasm_prefix") (drop l.meta-index l.metas) ≡ text_named (codes "fasm_prefix") l.metas
