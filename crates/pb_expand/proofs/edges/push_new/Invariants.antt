use Rattle.std.proofs.Common.{◌≡◌, ◌≤◌, Some, length, map, slice_get}
use Rattle.arch_types.specs.declared.block.PbType.{PbType}
use Rattle.pb_expand.specs.Rows.{addresses}
use Rattle.pb_expand.specs.Making.{AreBefore, AreModeEdges}
use Rattle.pb_expand.proofs.edges.push_new.Given as goal

abbrev pub invariant-loop-mode : goal.invariant-loop-mode
invariant-loop-mode l =
    AreBefore (map (λ b. b.now) l.places.blocks.items) (addresses l.places.rows.keys) l.places.pins.keys l.owner.0 l.mode l.edges.items
    × (length l.edges.items ≤ 4194304) × ((block : PbType) → slice_get (map (λ b. b.now) l.places.blocks.items) l.owner.0 ≡ Some block → AreModeEdges block l.mode l.kept.items)
