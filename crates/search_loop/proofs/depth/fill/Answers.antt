use Rattle.std.proofs.Common.{◌<◌, List, Bool, length, sym, subst}
use Rattle.task_types.specs.declared.tree.TreeNode.{TreeNode}
use Rattle.search_loop.specs.Writing.{IsFilled, GoesOn}
use Rattle.search_loop.proofs.Ends.{IsFilling, filled_next, filled_last, sizes_kept}
use Rattle.search_loop.proofs.Measure.{owed, owed_leaf}
use Rattle.search_loop.proofs.depth.fill.Goals as goal

pub returns-then-branch-clause-filled : goal.returns-then-branch-clause-filled
returns-then-branch-clause-filled g c =
    let goes = subst (λ (b : Bool). GoesOn c.args.graph.now c.args.task.now c.loop-leaf.trail.made c.put_leaf.new.trail.made b) c.if-branch.true c.in_ok-put_leaf.ensures.goes in
    subst (λ (l : List TreeNode). IsFilled c.args.graph.now c.args.net.now.atoms c.args.task.now c.args.tree.now l) (sym c.in_ok-put_leaf.ensures.written)
    (filled_last c.args.graph.now c.args.net.now.atoms c.args.task.now c.args.tree.now c.loop-leaf.tree c.loop-leaf.trail.made c.loop-leaf.invariant.0 c.in_ok-leaf.leaf c.in_ok-leaf.ensures.leaf c.put_leaf.new.trail.made goes)

pub loop-leaf-smaller : goal.loop-leaf-smaller
loop-leaf-smaller g c =
    subst (λ (l : List TreeNode). owed c.args.graph.now c.args.task.now l < owed c.args.graph.now c.args.task.now c.loop-leaf.tree) (sym c.in_ok-put_leaf.ensures.written)
    (owed_leaf c.args.graph.now c.args.net.now.atoms c.args.task.now c.loop-leaf.tree c.loop-leaf.trail.made c.loop-leaf.invariant.0.opened c.in_ok-leaf.leaf c.in_ok-leaf.ensures.leaf.leaf)

pub loop-leaf-preserved : goal.loop-leaf-preserved
loop-leaf-preserved g c =
    let goes = subst (λ (b : Bool). GoesOn c.args.graph.now c.args.task.now c.loop-leaf.trail.made c.put_leaf.new.trail.made b) c.if-branch.false c.in_ok-put_leaf.ensures.goes in (
      subst (λ (l : List TreeNode). IsFilling c.args.graph.now c.args.net.now.atoms c.args.task.now c.args.tree.now l c.put_leaf.new.trail.made) (sym c.in_ok-put_leaf.ensures.written)
          (filled_next c.args.graph.now c.args.net.now.atoms c.args.task.now c.args.tree.now c.loop-leaf.tree c.loop-leaf.trail.made c.loop-leaf.invariant.0 c.in_ok-leaf.leaf c.in_ok-leaf.ensures.leaf c.put_leaf.new.trail.made goes),
      sizes_kept c.loop-leaf.trail c.put_leaf.new.trail (length c.args.graph.now.instances) (length c.args.graph.now.pins) (length c.args.task.now.atoms) c.loop-leaf.invariant.1 c.put_leaf.ensures.sizes,
      c.leaf_here.ensures.fit,
    )
