use Rattle.leaf_homes.proofs.Held.{held, fitting}
use Rattle.leaf_homes.proofs.leaves.holds_at.Goals as goal

pub returns-then-eq : goal.returns-then-eq
returns-then-eq c = (
  λ t. held c.args.graph.now c.args.atom.now c.args.leaf.0 c.in-Leaf.kind c.ports.result.now c.in-Leaf.ensures c.ports.ensures (c.fits.ensures.0 t),
  λ h. c.fits.ensures.1 (fitting c.args.graph.now c.args.atom.now c.args.leaf.0 c.in-Leaf.kind c.ports.result.now c.in-Leaf.ensures c.ports.ensures h),
)
