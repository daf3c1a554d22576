use Rattle.std.proofs.Common.{List, Bool, sym, subst}
use Rattle.task_types.specs.declared.tree.TreeNode.{TreeNode}
use Rattle.search_loop.specs.Writing.{IsOpened, IsFilled, IsLeftOpen, GoesOn}
use Rattle.search_loop.proofs.Ends.{loose_next, loose_last, loose_filled}
use Rattle.search_loop.proofs.depth.leave_open.Goals as goal

pub returns-then-branch-clause-open : goal.returns-then-branch-clause-open
returns-then-branch-clause-open g c =
    let goes = subst (λ (b : Bool). GoesOn c.args.graph.now c.args.task.now c.args.trail.now.made c.put_leaf.new.trail.made b) c.if-branch.true c.in_ok-put_leaf.ensures.goes in
    subst (λ (l : List TreeNode). IsLeftOpen c.args.graph.now c.args.net.now.atoms c.args.task.now c.args.tree.now l) (sym c.in_ok-put_leaf.ensures.written)
    (loose_last c.args.graph.now c.args.net.now.atoms c.args.task.now c.args.tree.now c.args.trail.now.made c.put_leaf.new.trail.made c.requires.opened (c.hope_law.ensures c.args.net.now.atoms c.args.task.now c.args.trail.now.made c.requires.hopeful) goes)

pub fill-requires-clause-opened : goal.fill-requires-clause-opened
fill-requires-clause-opened g c =
    let goes = subst (λ (b : Bool). GoesOn c.args.graph.now c.args.task.now c.args.trail.now.made c.put_leaf.new.trail.made b) c.if-branch.false c.in_ok-put_leaf.ensures.goes in
    subst (λ (l : List TreeNode). IsOpened c.args.graph.now c.args.net.now.atoms c.args.task.now l c.put_leaf.new.trail.made) (sym c.in_ok-put_leaf.ensures.written)
    (loose_next c.args.graph.now c.args.net.now.atoms c.args.task.now c.args.tree.now c.args.trail.now.made c.put_leaf.new.trail.made c.requires.opened (c.hope_law.ensures c.args.net.now.atoms c.args.task.now c.args.trail.now.made c.requires.hopeful) goes)

pub returns-clause-open : goal.returns-clause-open
returns-clause-open g c = loose_filled c.args.graph.now c.args.net.now.atoms c.args.task.now c.args.tree.now c.fill.new.tree (subst (λ (l : List TreeNode). IsFilled c.args.graph.now c.args.net.now.atoms c.args.task.now l c.fill.new.tree) c.in_ok-put_leaf.ensures.written c.in_ok-fill.ensures.filled)
