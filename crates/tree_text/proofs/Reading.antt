-- Reading the nodes of a tree line by line.
use Rattle.std.proofs.Common.{◌≡◌, ◌+◌, ◌*◌, ◌<◌, ◌≤◌, ℕ, zero, suc, min, List, [], ◌∷◌, ◌++◌, length, refl, sym, ap, subst, ◌∙◌, inl, inr, arith, append_assoc}
use Rattle.std.specs.Str.Lines.{lines}
use Rattle.std.proofs.lemmas.List.{length_push}
use Rattle.vtr_base.specs.Lists.{Has}
use Rattle.pb_expand.specs.Graph.{Graph}
use Rattle.task_types.specs.declared.task.Task.{Task}
use Rattle.task_types.specs.declared.tree.Var.{Var}
use Rattle.task_types.specs.declared.tree.TreeNode.{TreeNode}
use Rattle.task_types.specs.declared.tree.TreeNode.TheVariants.{Branch}
use Rattle.task_types.specs.Trees.{AreTrees, IsWholeTree, kids_of}
use Rattle.tree_lines.specs.Nodes.{SpellsNode}
use Rattle.tree_text.specs.Text.{SpellNodes, LeaveTrees, line_number}

module _ (g : Graph) (t : Task) (names : List (List ℕ)) where
  -- one line and one node more
  spell_more : (front : List (List ℕ)) (nodes : List TreeNode) (line : List ℕ) (node : TreeNode) → SpellNodes g t names front nodes → SpellsNode g t names line node →
      SpellNodes g t names (front ++ line ∷ []) (nodes ++ node ∷ [])
  spell_more [] [] line node each spells = (spells, tt)
  spell_more [] (n ∷ nodes) line node each spells = absurd each
  spell_more (l ∷ front) [] line node each spells = absurd each
  spell_more (l ∷ front) (n ∷ nodes) line node each spells = (each.0, spell_more front nodes line node each.1 spells)

  -- each branch that is spelled has a child
  spelled_kids : (front : List (List ℕ)) (nodes : List TreeNode) → SpellNodes g t names front nodes → (v : Var) (kids : ℕ) → Has nodes (Branch v kids) → 0 < kids
  spelled_kids [] [] each v kids has = absurd has
  spelled_kids [] (n ∷ nodes) each v kids has = absurd each
  spelled_kids (l ∷ front) [] each v kids has = absurd each
  spelled_kids (l ∷ front) (n ∷ nodes) each v kids (inl is) = (subst (λ (m : TreeNode). SpellsNode g t names l m) (sym is) each.0).some
  spelled_kids (l ∷ front) (n ∷ nodes) each v kids (inr has) = spelled_kids front nodes each.1 v kids has

leave_more : (trees : ℕ) (nodes : List TreeNode) (left next : ℕ) (node : TreeNode) → LeaveTrees trees nodes (suc left) → next ≡ kids_of node + left →
    LeaveTrees trees (nodes ++ node ∷ []) next
leave_more trees [] left next node leave is = subst (λ k. LeaveTrees k (node ∷ []) next) leave (is)
leave_more zero (n ∷ nodes) left next node leave is = absurd leave
leave_more (suc trees) (n ∷ nodes) left next node leave is = leave_more (kids_of n + trees) nodes left next node leave is

pub whole_leave : (trees : ℕ) (nodes : List TreeNode) → LeaveTrees trees nodes 0 → AreTrees trees nodes
whole_leave trees [] leave = sym leave
whole_leave zero (n ∷ nodes) leave = absurd leave
whole_leave (suc trees) (n ∷ nodes) leave = whole_leave (kids_of n + trees) nodes leave

pub leave_whole : (trees : ℕ) (nodes : List TreeNode) → AreTrees trees nodes → LeaveTrees trees nodes 0
leave_whole trees [] whole = sym whole
leave_whole zero (n ∷ nodes) whole = absurd whole
leave_whole (suc trees) (n ∷ nodes) whole = leave_whole (kids_of n + trees) nodes whole

-- the lines before these bytes were read
pub record IsReading (g : Graph) (t : Task) (names all : List (List ℕ)) (rest : List ℕ) (nodes : List TreeNode) (left number : ℕ) : Type 0 where
  pub front : List (List ℕ)
  pub are : all ≡ front ++ lines rest
  pub each : SpellNodes g t names front nodes
  pub leave : LeaveTrees 1 nodes left
  pub numbered : number ≡ line_number front
  pub low : left ≤ 1 + 4294967295 * length nodes

module _ (g : Graph) (t : Task) (names : List (List ℕ)) where
  pub reads_line : (all : List (List ℕ)) (rest behind : List ℕ) (nodes new : List TreeNode) (left next number : ℕ) (line : List ℕ) (node : TreeNode) →
      IsReading g t names all rest nodes left number → lines rest ≡ line ∷ lines behind → SpellsNode g t names line node → 0 < left → next + 1 ≡ left + kids_of node →
      kids_of node ≤ 4294967295 → new ≡ nodes ++ node ∷ [] → IsReading g t names all behind new next (min (number + 1) 4294967295)
  reads_line all rest behind nodes new left next number line node r is spells some more small added =
      subst (λ (ns : List TreeNode). IsReading g t names all behind ns next (min (number + 1) 4294967295)) (sym added)
      (by left refl)
    where
      step : (left : ℕ) (k : ℕ) → left ≡ suc k → LeaveTrees 1 nodes left → next + 1 ≡ left + kids_of node → LeaveTrees 1 (nodes ++ node ∷ []) next
      step left k e leave more = leave_more 1 nodes k next node (subst (λ n. LeaveTrees 1 nodes n) e leave) (omega (arith, e, more))

      by : (l : ℕ) → l ≡ left → IsReading g t names all behind (nodes ++ node ∷ []) next (min (number + 1) 4294967295)
      by zero e = absurd (omega (arith, e, some))
      by (suc k) e = record {
        front = r.front ++ line ∷ [];
        are = r.are ∙ ap (λ ls. r.front ++ ls) is ∙ sym (append_assoc r.front (line ∷ []) (lines behind));
        each = spell_more g t names r.front nodes line node r.each spells;
        leave = step left k (sym e) r.leave more;
        numbered = omega (arith, r.numbered, length_push r.front line);
        low = omega (arith, r.low, more, small, length_push nodes node);
      }

  pub whole_read : (all : List (List ℕ)) (rest : List ℕ) (nodes : List TreeNode) (left number : ℕ) → IsReading g t names all rest nodes left number → left ≡ 0 →
      IsWholeTree nodes
  whole_read all rest nodes left number r none =
      record { one = whole_leave 1 nodes (subst (λ k. LeaveTrees 1 nodes k) none r.leave); kids = spelled_kids g t names r.front nodes r.each }
