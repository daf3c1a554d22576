use Rattle.std.proofs.Common.{map, take}
use Rattle.pb_expand.specs.Rows.{addresses}
use Rattle.pb_expand.specs.Making.{AreBlocks, AreShort}
use Rattle.pb_expand.proofs.places.blocks_of.Given as goal

abbrev pub invariant-loop-row : goal.invariant-loop-row
invariant-loop-row l = AreBlocks l.root (addresses (take l.row-index l.rows)) (map (λ b. b.now) l.blocks.items) × AreShort (map (λ b. b.now) l.blocks.items)
