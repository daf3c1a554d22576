use Rattle.std.proofs.Common.{◌≡◌, take, map}
use Rattle.arch_build.proofs.places.names_of_blocks.Given as goal

-- what was gathered, and what is still to come, is all
abbrev pub invariant-loop-block : goal.invariant-loop-block
invariant-loop-block l = map (λ n. n.now) l.names.items ≡ map (λ b. b.name) (take l.block-index l.blocks)
