use Rattle.std.proofs.Common.{sym, subst, arith}
use Rattle.search_real.specs.Placed.{AreHomes}
use Rattle.search_real.proofs.Placing.{homes_are, all_before}
use Rattle.search_real.proofs.homes.homes_of.Goals as goal

pub returns : goal.returns
returns c =
    subst (λ hs. AreHomes c.args.task.now c.args.trail.now.made hs) (sym c.from_vec.ensures)
    (homes_are c.args.task.now c.args.trail.now.made c.args.graph.now c.loop-leaf.homes.items c.requires.held c.requires.homes
    (all_before c.args.task.now c.args.trail.now.made c.loop-leaf.homes.items c.loop-leaf.leaf _ c.loop-leaf.invariant (omega (arith, c.loop-leaf-test.false, c.pbs-leaf-end.ensures))))
