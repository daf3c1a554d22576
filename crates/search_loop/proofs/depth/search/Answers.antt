use Rattle.std.proofs.Common.{◌≡◌, ◌<◌, ◌+◌, List, Bool, length, sym, ◌∙◌, subst, arith, rules}
use Rattle.std.specs.Prelude.{IfSome}
use Rattle.task_types.specs.declared.tree.TreeNode.{TreeNode}
use Rattle.task_types.specs.Trees.{IsWholeTree}
use Rattle.search_rules.specs.Closing.{Closes, IsHopeful}
use Rattle.search_rules.specs.Left.{IsNextVar}
use Rattle.search_loop.specs.Outcomes.{IsRefuted, IsGivenUp}
use Rattle.search_loop.specs.Writing.{GoesOn}
use Rattle.search_loop.proofs.Ends.{IsSearching, closing_leaf, closed_next, closed_last, branched, given_up, sizes_kept}
use Rattle.search_loop.proofs.Measure.{left, left_leaf, left_branch}
use Rattle.search_loop.proofs.Paths.{enters_at_root}
use Rattle.search_loop.proofs.Written.{written_whole}
use Rattle.search_loop.proofs.depth.search.Goals as goal

pub close-requires-clause-root : goal.close-requires-clause-root
close-requires-clause-root g c =
    let o = c.loop-tree.invariant.0.opened in
    enters_at_root c.args.graph.now c.args.task.now c.loop-tree.trail.made (o.rest, o.owes)

pub next_var-requires-clause-root : goal.next_var-requires-clause-root
next_var-requires-clause-root g c =
    let o = c.loop-tree.invariant.0.opened in
    enters_at_root c.args.graph.now c.args.task.now c.loop-tree.trail.made (o.rest, o.owes)

pub from_nodes-requires : goal.from_nodes-requires
from_nodes-requires g c =
    let closes : Closes c.args.graph.now c.args.net.now.atoms c.args.task.now c.loop-tree.trail.made c.in-Some.leaf = subst (λ o. IfSome o (λ (node : TreeNode). Closes c.args.graph.now c.args.net.now.atoms c.args.task.now c.loop-tree.trail.made node)) c.in-Some.is c.in_ok-leaf.ensures.closes in
    let goes = subst (λ (b : Bool). GoesOn c.args.graph.now c.args.task.now c.loop-tree.trail.made c.put_leaf.new.trail.made b) c.if-branch.true c.in_ok-put_leaf.ensures.goes in
    let refuted = closed_last c.args.graph.now c.args.net.now.atoms c.args.task.now c.args.nodes c.loop-tree.tree c.loop-tree.trail.made c.loop-tree.branches c.loop-tree.invariant.0 c.requires.few_needs c.in-Some.leaf closes c.put_leaf.new.trail.made goes in
    subst (λ (l : List TreeNode). IsWholeTree l) (sym c.in_ok-put_leaf.ensures.written) refuted.refutes.whole

pub returns-then-branch-clause-outcome : goal.returns-then-branch-clause-outcome
returns-then-branch-clause-outcome g c =
    let closes : Closes c.args.graph.now c.args.net.now.atoms c.args.task.now c.loop-tree.trail.made c.in-Some.leaf = subst (λ o. IfSome o (λ (node : TreeNode). Closes c.args.graph.now c.args.net.now.atoms c.args.task.now c.loop-tree.trail.made node)) c.in-Some.is c.in_ok-leaf.ensures.closes in
    let goes = subst (λ (b : Bool). GoesOn c.args.graph.now c.args.task.now c.loop-tree.trail.made c.put_leaf.new.trail.made b) c.if-branch.true c.in_ok-put_leaf.ensures.goes in
    subst (λ (l : List TreeNode). IsRefuted c.args.graph.now c.args.net.now.atoms c.args.task.now l) (sym (c.from_nodes.ensures ∙ c.in_ok-put_leaf.ensures.written))
    (closed_last c.args.graph.now c.args.net.now.atoms c.args.task.now c.args.nodes c.loop-tree.tree c.loop-tree.trail.made c.loop-tree.branches c.loop-tree.invariant.0 c.requires.few_needs c.in-Some.leaf closes c.put_leaf.new.trail.made goes)

pub loop-tree-smaller-else-branch : goal.loop-tree-smaller-else-branch
loop-tree-smaller-else-branch g c =
    let closes : Closes c.args.graph.now c.args.net.now.atoms c.args.task.now c.loop-tree.trail.made c.in-Some.leaf = subst (λ o. IfSome o (λ (node : TreeNode). Closes c.args.graph.now c.args.net.now.atoms c.args.task.now c.loop-tree.trail.made node)) c.in-Some.is c.in_ok-leaf.ensures.closes in
    let leaf = closing_leaf c.args.graph.now c.args.net.now.atoms c.args.task.now c.args.nodes c.loop-tree.tree c.loop-tree.trail.made c.loop-tree.branches c.loop-tree.invariant.0 c.requires.few_needs c.in-Some.leaf closes in
    subst (λ (l : List TreeNode). left c.args.graph.now c.args.task.now c.args.nodes c.loop-tree.branches l < left c.args.graph.now c.args.task.now c.args.nodes c.loop-tree.branches c.loop-tree.tree) (sym c.in_ok-put_leaf.ensures.written)
    (left_leaf c.args.graph.now c.args.net.now.atoms c.args.task.now c.loop-tree.tree c.loop-tree.trail.made c.loop-tree.invariant.0.opened c.in-Some.leaf c.args.nodes c.loop-tree.branches leaf)

pub loop-tree-preserved-else-branch : goal.loop-tree-preserved-else-branch
loop-tree-preserved-else-branch g c =
    let closes : Closes c.args.graph.now c.args.net.now.atoms c.args.task.now c.loop-tree.trail.made c.in-Some.leaf = subst (λ o. IfSome o (λ (node : TreeNode). Closes c.args.graph.now c.args.net.now.atoms c.args.task.now c.loop-tree.trail.made node)) c.in-Some.is c.in_ok-leaf.ensures.closes in
    let goes = subst (λ (b : Bool). GoesOn c.args.graph.now c.args.task.now c.loop-tree.trail.made c.put_leaf.new.trail.made b) c.if-branch.false c.in_ok-put_leaf.ensures.goes in (
      subst (λ (l : List TreeNode). IsSearching c.args.graph.now c.args.net.now.atoms c.args.task.now c.args.nodes l c.put_leaf.new.trail.made c.loop-tree.branches) (sym c.in_ok-put_leaf.ensures.written)
          (closed_next c.args.graph.now c.args.net.now.atoms c.args.task.now c.args.nodes c.loop-tree.tree c.loop-tree.trail.made c.loop-tree.branches c.loop-tree.invariant.0 c.requires.few_needs c.in-Some.leaf closes c.put_leaf.new.trail.made goes),
      sizes_kept c.loop-tree.trail c.put_leaf.new.trail (length c.args.graph.now.instances) (length c.args.graph.now.pins) (length c.args.task.now.atoms) c.loop-tree.invariant.1 c.put_leaf.ensures.sizes,
      c.close.ensures.fit,
    )

pub from_nodes-requires-then-branches-nodes : goal.from_nodes-requires-then-branches-nodes
from_nodes-requires-then-branches-nodes g c = written_whole c.args.graph.now c.args.net.now.atoms c.args.task.now c.leave_open.new.tree c.in_ok-leave_open.ensures.open.written

pub returns-then-branches-nodes-clause-outcome : goal.returns-then-branches-nodes-clause-outcome
returns-then-branches-nodes-clause-outcome g c =
    let next : IsNextVar c.args.graph.now c.args.net.now.atoms c.args.task.now c.loop-tree.trail.made c.in-Some-2.var = subst (λ o. IfSome o (IsNextVar c.args.graph.now c.args.net.now.atoms c.args.task.now c.loop-tree.trail.made)) c.in-Some-2.is c.in_ok-var.ensures.next in
    let full : c.loop-tree.branches ≡ c.args.nodes = omega arith in
    subst (λ (l : List TreeNode). IsGivenUp c.args.graph.now c.args.net.now.atoms c.args.task.now c.args.nodes l) (sym c.from_nodes-then-branches-nodes.ensures)
    (given_up c.args.graph.now c.args.net.now.atoms c.args.task.now c.args.nodes c.loop-tree.tree c.loop-tree.trail.made c.loop-tree.branches c.loop-tree.invariant.0 c.requires.few_needs c.in-Some-2.var c.leave_open.new.tree c.lists_ends.ensures full next c.in_ok-leave_open.ensures.open)

pub loop-tree-smaller : goal.loop-tree-smaller
loop-tree-smaller g c =
    let b = c.in_ok-put_branch.ensures.branched in
    let below : c.loop-tree.branches < c.args.nodes = omega (arith, c.loop-tree.invariant.0.within) in
    subst (λ (l : List TreeNode). left c.args.graph.now c.args.task.now c.args.nodes (c.loop-tree.branches + 1) l < left c.args.graph.now c.args.task.now c.args.nodes c.loop-tree.branches c.loop-tree.tree) (sym b.is)
    (left_branch c.args.graph.now c.args.net.now.atoms c.args.task.now c.loop-tree.tree c.loop-tree.trail.made c.loop-tree.invariant.0.opened c.in-Some-2.var b.kids c.args.nodes c.loop-tree.branches below b.few)

pub loop-tree-preserved : goal.loop-tree-preserved
loop-tree-preserved g c =
    let b = c.in_ok-put_branch.ensures.branched in
    let below : c.loop-tree.branches < c.args.nodes = omega (arith, c.loop-tree.invariant.0.within) in
    let hopeful : IsHopeful c.args.graph.now c.args.net.now.atoms c.args.task.now c.loop-tree.trail.made = search rules in
    let next : IsNextVar c.args.graph.now c.args.net.now.atoms c.args.task.now c.loop-tree.trail.made c.in-Some-2.var = subst (λ o. IfSome o (IsNextVar c.args.graph.now c.args.net.now.atoms c.args.task.now c.loop-tree.trail.made)) c.in-Some-2.is c.in_ok-var.ensures.next in (
      branched c.args.graph.now c.args.net.now.atoms c.args.task.now c.args.nodes c.loop-tree.tree c.loop-tree.trail.made c.loop-tree.branches c.loop-tree.invariant.0 c.requires.few_needs c.put_branch.new.trail.made c.in-Some-2.var c.put_branch.new.tree below
          (c.hope_law.ensures c.args.net.now.atoms c.args.task.now c.loop-tree.trail.made hopeful) next b,
      sizes_kept c.loop-tree.trail c.put_branch.new.trail (length c.args.graph.now.instances) (length c.args.graph.now.pins) (length c.args.task.now.atoms) c.loop-tree.invariant.1 c.put_branch.ensures.sizes,
      c.next_var.ensures.fit,
    )
