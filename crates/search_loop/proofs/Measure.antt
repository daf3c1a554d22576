-- Branches are counted, and each step leaves less to do.
use Rattle.std.proofs.Common.{◌≡◌, ◌<◌, ◌+◌, ◌-◌, ◌*◌, ◌^◌, inl, inr, ℕ, suc, List, [], ◌∷◌, ◌++◌, length, refl, sym, ap, ◌∙◌, subst, arith, length-append}
use Rattle.vtr_base.specs.Lists.{Has}
use Rattle.pb_expand.specs.Graph.{Graph}
use Rattle.task_types.specs.declared.task.Task.{Task}
use Rattle.task_types.specs.declared.tree.Var.{Var}
use Rattle.task_types.specs.declared.tree.TreeNode.{TreeNode}
use Rattle.task_types.specs.declared.tree.TreeNode.TheVariants.{Branch, Homeless, Cut, Crowd, Loose}
use Rattle.task_types.specs.declared.decision.Decision.{Decision}
use Rattle.task_types.specs.Nets.{NetSaid}
use Rattle.task_types.specs.Trees.{branches, under, kids_of}
use Rattle.search_loop.specs.Writing.{pending, IsLeafNode, IsOpened}
use Rattle.search_loop.proofs.Written.{pending_append, under_count}

pub branches_append : (xs ys : List TreeNode) → branches (xs ++ ys) ≡ branches xs + branches ys
branches_append [] ys = omega arith
branches_append (Branch v kids ∷ xs) ys = let rest = branches_append xs ys in omega (arith, rest)
branches_append (Homeless atoms ∷ xs) ys = branches_append xs ys
branches_append (Cut need pins ∷ xs) ys = branches_append xs ys
branches_append (Crowd needs pins ∷ xs) ys = branches_append xs ys
branches_append (Loose ∷ xs) ys = branches_append xs ys

pub no_branches : (leaves : List TreeNode) → ((node : TreeNode) → Has leaves node → IsLeafNode node) → branches leaves ≡ 0
no_branches [] each = refl
no_branches (Branch v kids ∷ leaves) each = absurd (each (Branch v kids) (inl refl))
no_branches (Homeless atoms ∷ leaves) each = no_branches leaves (λ node has. each node (inr has))
no_branches (Cut need pins ∷ leaves) each = no_branches leaves (λ node has. each node (inr has))
no_branches (Crowd needs pins ∷ leaves) each = no_branches leaves (λ node has. each node (inr has))
no_branches (Loose ∷ leaves) each = no_branches leaves (λ node has. each node (inr has))

pub leaf_counts : (xs : List TreeNode) (y : TreeNode) → IsLeafNode y → branches (xs ++ y ∷ []) ≡ branches xs
leaf_counts xs y leaf =
    let none : branches (y ∷ []) ≡ 0 = no_branches (y ∷ []) (λ node has. elim has [ inl is ↦ subst IsLeafNode (sym is) leaf | inr bad ↦ absurd bad ]) in
    omega (arith, branches_append xs (y ∷ []), none)

-- the trees that are still to come
abbrev pub owed : Graph → Task → List TreeNode → ℕ
owed g t nodes = length (pending g t ([] ∷ []) nodes)

-- each branch that is left may bring as many trees as a node can count
abbrev pub left : Graph → Task → ℕ → ℕ → List TreeNode → ℕ
left g t limit done nodes = (limit - done) * 2 ^ 32 + owed g t nodes

module _ (g : Graph) (n : NetSaid) (t : Task) (xs : List TreeNode) (s : List Decision) (o : IsOpened g n t xs s) (y : TreeNode) where
  pub owed_push : suc (owed g t (xs ++ y ∷ [])) ≡ owed g t xs + kids_of y
  owed_push =
      let after : pending g t ([] ∷ []) (xs ++ y ∷ []) ≡ under g t s y ++ o.rest = pending_append g t ([] ∷ []) xs (y ∷ []) ∙ ap (λ todo. pending g t todo (y ∷ [])) o.written.comes in
      let now : owed g t xs ≡ suc (length o.rest) = ap length o.written.comes in
      omega (arith, now, ap length after, length-append (under g t s y) o.rest, under_count g t s y)

  pub owed_leaf : IsLeafNode y → owed g t (xs ++ y ∷ []) < owed g t xs
  owed_leaf leaf = omega (arith, owed_push, no_kids y leaf)
    where
      no_kids : (y : TreeNode) → IsLeafNode y → kids_of y ≡ 0
      no_kids (Branch v kids) leaf = absurd leaf
      no_kids (Homeless atoms) leaf = refl
      no_kids (Cut need pins) leaf = refl
      no_kids (Crowd needs pins) leaf = refl
      no_kids Loose leaf = refl

fewer : (limit done kids p q : ℕ) → done < limit → kids < 2 ^ 32 → suc q ≡ p + kids → (limit - (done + 1)) * 2 ^ 32 + q < (limit - done) * 2 ^ 32 + p
fewer limit done kids p q below few is = let m : limit - done ≡ suc (limit - (done + 1)) = omega (arith, below) in omega (arith, m, few, is)

pub left_branch : (g : Graph) (n : NetSaid) (t : Task) (xs : List TreeNode) (s : List Decision) (o : IsOpened g n t xs s) (v : Var) (kids limit done : ℕ) → done < limit → kids < 2 ^ 32 →
    left g t limit (done + 1) (xs ++ Branch v kids ∷ []) < left g t limit done xs
left_branch g n t xs s o v kids limit done below few = fewer limit done kids (owed g t xs) (owed g t (xs ++ Branch v kids ∷ [])) below few (owed_push g n t xs s o (Branch v kids))

pub left_leaf : (g : Graph) (n : NetSaid) (t : Task) (xs : List TreeNode) (s : List Decision) (o : IsOpened g n t xs s) (y : TreeNode) (limit done : ℕ) → IsLeafNode y →
    left g t limit done (xs ++ y ∷ []) < left g t limit done xs
left_leaf g n t xs s o y limit done leaf = let less = owed_leaf g n t xs s o y leaf in omega (arith, less)
