use Rattle.std.proofs.Common.{sym}
use Rattle.rr_grid.proofs.Found.{low_width, low_height, root_there}
use Rattle.rr_grid.proofs.grid.Grid.root_at.Goals as goal

pub root_of-requires-clause-x : goal.root_of-requires-clause-x
root_of-requires-clause-x c =
    low_width c.self.inside.places.items c.self.inside.firsts c.self.invariant.0 c.args.x c.args.y c.in_ok-first.first (sym c.in_ok-first.ensures)

pub root_of-requires-clause-y : goal.root_of-requires-clause-y
root_of-requires-clause-y c =
    low_height c.self.inside.places.items c.self.inside.firsts c.self.invariant.0 c.args.x c.args.y c.in_ok-first.first (sym c.in_ok-first.ensures)

pub returns : goal.returns
returns c =
    rw (← c.self.view_is)
    (root_there c.self.inside.places.items c.self.inside.firsts c.self.invariant.0 c.args.x c.args.y c.in_ok-first.first (sym c.in_ok-first.ensures)
    c.root_of.result c.root_of.ensures.x c.root_of.ensures.y c.root_of.ensures.block_type)
