-- Leaves, and what nodes say in a text.
use Rattle.std.proofs.Common.{◌≡◌, ◌<◌, ◌^◌, List, length, sym, subst, arith}
use Rattle.std.specs.List.{All}
use Rattle.std.proofs.lemmas.Option.{get_or_from_slice_get}
use Rattle.vtr_base.specs.Lists.{Has}
use Rattle.list_laws.proofs.Members.{has_at}
use Rattle.list_laws.proofs.Places.{element}
use Rattle.pb_expand.specs.Graph.{Graph}
use Rattle.task_types.specs.declared.task.Task.{Task}
use Rattle.task_types.specs.declared.tree.Var.{Var}
use Rattle.task_types.specs.declared.tree.TreeNode.{TreeNode}
use Rattle.task_types.specs.declared.tree.TreeNode.TheVariants.{Branch, Homeless, Cut, Crowd, Loose}
use Rattle.task_types.specs.declared.decision.Decision.{Decision}
use Rattle.task_types.specs.Nets.{NetSaid}
use Rattle.task_types.specs.Nodes.{IsAccepted}
use Rattle.task_types.specs.Tidy.{HasHope}
use Rattle.tree_steps.specs.Owing.{IsEntered}
use Rattle.search_rules.specs.Closing.{IsClosing, IsInside, IsWritable, Closes}
use Rattle.search_rules.specs.Left.{IsNextVar}
use Rattle.search_loop.specs.Writing.{Stands, StandsAsLeaf, IsLeafNode, IsBranched, IsWritten}
use Rattle.search_loop.proofs.Paths.{var_there}
use Rattle.search_loop.proofs.Written.{node_stands}

pub all_of : {X : Type 0} (P : X → Type 0) (xs : List X) → ((x : X) → Has xs x → P x) → All P xs
all_of P xs each = λ k d inside.
    let r = element xs k inside in
    subst P (sym (get_or_from_slice_get xs k r.0 d r.1)) (each r.0 (has_at xs k r.0 r.1))

-- a leaf of any kind is entered as it is
pub leaf_entered : (g : Graph) (t : Task) (made : List Decision) (node : TreeNode) → IsLeafNode node → IsEntered g t made node
leaf_entered g t made (Branch v kids) leaf = absurd leaf
leaf_entered g t made (Homeless atoms) leaf = tt
leaf_entered g t made (Cut need pins) leaf = tt
leaf_entered g t made (Crowd needs pins) leaf = tt
leaf_entered g t made Loose leaf = tt

module _ (g : Graph) (n : NetSaid) (t : Task) (made : List Decision) where
  pub closing_stands : (node : TreeNode) → length t.needs < 2 ^ 32 → Closes g n t made node → StandsAsLeaf g n t made node
  closing_stands node few c = by node c.closing c.accepted c.inside
    where
      by : (x : TreeNode) → IsClosing x → IsAccepted g n t made x → IsInside g t x → StandsAsLeaf g n t made x
      by (Branch v kids) closing accepted inside = absurd closing
      by (Homeless atoms) closing accepted inside = record { stands = record { accepted = accepted; tidy = tt; writable = inside; entered = tt }; leaf = tt }
      by (Cut need pins) closing accepted inside = record { stands = record { accepted = accepted; tidy = tt; writable = (inside.0, omega (arith, inside.0, few), inside.1); entered = tt }; leaf = tt }
      by (Crowd needs pins) closing accepted inside = record { stands = record { accepted = accepted; tidy = tt; writable = (λ k d within. let low = inside.0 k d within in (low, omega (arith, low, few)), inside.1); entered = tt }; leaf = tt }
      by Loose closing accepted inside = absurd closing

  pub closing_tight : (node : TreeNode) → IsClosing node → node ≡ Loose → ⊥
  closing_tight (Branch v kids) closing is = closing
  closing_tight (Homeless atoms) closing is = cc is
  closing_tight (Cut need pins) closing is = cc is
  closing_tight (Crowd needs pins) closing is = cc is
  closing_tight Loose closing is = closing

  pub loose_stands : HasHope g n t made → StandsAsLeaf g n t made Loose
  loose_stands hope = record { stands = record { accepted = tt; tidy = hope; writable = tt; entered = tt }; leaf = tt }

  pub branch_stands : (new : List Decision) (v : Var) (before nodes : List TreeNode) → HasHope g n t made → IsNextVar g n t made v → (b : IsBranched g t made new v before nodes) → Stands g n t made (Branch v b.kids)
  branch_stands new v before nodes hope next b =
      let accepted : IsAccepted g n t made (Branch v b.kids) = record { live = next.live; undecided = next.undecided; each = b.each } in
      record { accepted = accepted; tidy = (hope, next.worthwhile); writable = (var_there g t made v next.live, b.few); entered = (accepted, b.some) }

pub all_writable : (g : Graph) (n : NetSaid) (t : Task) (nodes : List TreeNode) (todo : List (List Decision)) → IsWritten g n t nodes todo → All (IsWritable g t) nodes
all_writable g n t nodes todo w = all_of (IsWritable g t) nodes (λ x has. let r = node_stands g n t nodes todo w x has in r.1.writable)
