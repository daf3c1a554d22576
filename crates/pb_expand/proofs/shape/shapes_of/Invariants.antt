use Rattle.std.proofs.Common.{◌≡◌, ◌+◌, ℕ, Some, map, length, drop, slice_get}
use Rattle.arch_types.specs.declared.block.PbType.{PbType}
use Rattle.pb_expand.specs.declared.shape.Shape.{Shape}
use Rattle.pb_expand.specs.Making.{pins_over}
use Rattle.pb_expand.specs.Shapes.{IsShape}
use Rattle.pb_expand.proofs.shape.shapes_of.Given as goal

abbrev pub invariant-loop-block : goal.invariant-loop-block
invariant-loop-block l = let blocks = map (λ b. b.now) l.blocks in
    (length l.shapes.items ≡ l.block-index)
    × (l.next + length (pins_over l.block-index (drop l.block-index blocks)) ≡ length (pins_over 0 blocks))
    × ((k : ℕ) (b : PbType) (t : Shape) → slice_get blocks k ≡ Some b → slice_get l.shapes.items k ≡ Some t → IsShape blocks k b t)
