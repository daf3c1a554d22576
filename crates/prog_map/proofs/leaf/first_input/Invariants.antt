use Rattle.std.proofs.Common.{◌≡◌, ◌<◌, ℕ, Some}
use Rattle.std.specs.Prelude.{slice_get}
use Rattle.arch_types.specs.declared.block.Side.TheVariants.{Input}
use Rattle.prog_map.specs.Leaves.{sides_of}
use Rattle.prog_map.proofs.leaf.first_input.Given as goal

abbrev pub invariant-loop-place : goal.invariant-loop-place
invariant-loop-place l = (j : ℕ) → j < l.place → slice_get (sides_of l.ports) j ≡ Some Input → ⊥
