use Rattle.std.proofs.Common.{◌≡◌, ◌≤◌, length, map}
use Rattle.pb_expand.specs.Rows.{addresses}
use Rattle.pb_expand.specs.Making.{AreBefore, HaveModeEdges}
use Rattle.pb_expand.proofs.edges.edges_of.Given as goal

abbrev pub invariant-loop-owner : goal.invariant-loop-owner
invariant-loop-owner l =
    AreBefore (map (λ b. b.now) l.places.blocks.items) (addresses l.places.rows.keys) l.places.pins.keys l.owner 0 l.edges.items
    × (length l.edges.items ≤ 4194304) × HaveModeEdges (map (λ b. b.now) l.places.blocks.items) l.places.firsts.items l.lists.items
    × (length l.lists.items ≡ l.owner)
