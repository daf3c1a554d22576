use Rattle.std.proofs.Common.{◌≡◌, ◌<◌, ℕ, Some, slice_get}
use Rattle.arch_types.specs.declared.arch.Layout.{Layout}
use Rattle.loc_prefixes.specs.Layouts.{HasSize}
use Rattle.loc_prefixes.proofs.layout.layout_of.Given as goal

abbrev pub invariant-loop-layout : goal.invariant-loop-layout
invariant-loop-layout l = (n : ℕ) (other : Layout) → n < l.layout-index → slice_get l.layouts n ≡ Some other → HasSize other l.size → ⊥
