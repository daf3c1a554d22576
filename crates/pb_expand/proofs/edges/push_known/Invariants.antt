use Rattle.std.proofs.Common.{◌≤◌, length, map}
use Rattle.pb_expand.proofs.KeptModes.{ArePassed}
use Rattle.pb_expand.proofs.edges.push_known.Given as goal

abbrev pub invariant-loop-known : goal.invariant-loop-known
invariant-loop-known l =
    ArePassed (map (λ b. b.now) l.places.blocks.items) l.places.rows.keys l.places.pins.keys l.owner.0 l.known-index l.kept l.edges.items
    × (length l.edges.items ≤ 4194304)
