-- How a search ends.
use Rattle.std.proofs.Common.{◌≡◌, ◌<◌, ◌≤◌, ◌+◌, ◌^◌, inl, inr, ℕ, true, false, List, [], ◌∷◌, ◌++◌, length, refl, sym, ap, ◌∙◌, subst, arith, append_assoc, append-nil, length-append}
use Rattle.std.proofs.lemmas.List.{length-map}
use Rattle.vtr_base.specs.Lists.{Has}
use Rattle.list_laws.proofs.Members.{has_right, has_pushed}
use Rattle.pb_expand.specs.Ends.{ListsEnds}
use Rattle.pb_expand.specs.Graph.{Graph}
use Rattle.task_types.specs.declared.task.Task.{Task}
use Rattle.task_types.specs.declared.tree.Var.{Var}
use Rattle.task_types.specs.declared.tree.TreeNode.{TreeNode}
use Rattle.task_types.specs.declared.tree.TreeNode.TheVariants.{Branch, Loose}
use Rattle.task_types.specs.declared.decision.Decision.{Decision}
use Rattle.task_types.specs.Nets.{NetSaid}
use Rattle.task_types.specs.Nodes.{IsAccepted}
use Rattle.task_types.specs.Options.{options}
use Rattle.task_types.specs.Tidy.{HasHope}
use Rattle.task_types.specs.Trees.{Visit, visit_of, visits_of, branches}
use Rattle.task_trail.specs.Decided.{Decided, decided_on}
use Rattle.search_rules.specs.Closing.{Closes}
use Rattle.search_rules.specs.Left.{IsNextVar}
use Rattle.search_loop.specs.Outcomes.{IsRefuted, WantsMore, IsGivenUp}
use Rattle.search_loop.specs.Writing.{StandsAsLeaf, IsLeafNode, IsOpened, GoesOn, IsBranched, IsFilled, IsLeftOpen}
use Rattle.search_loop.proofs.Leaves.{closing_stands, closing_tight, loose_stands, branch_stands, all_writable}
use Rattle.search_loop.proofs.Measure.{branches_append, no_branches, leaf_counts}
use Rattle.search_loop.proofs.Spent.{one_way}
use Rattle.search_loop.proofs.Written.{visits_push, opened_next, opened_done, opened_branch, written_whole, opened_none}

-- where a search stands, after so many branches
pub record IsSearching (g : Graph) (n : NetSaid) (t : Task) (limit : ℕ) (nodes : List TreeNode) (made : List Decision) (count : ℕ) : Type 0 where
  pub opened : IsOpened g n t nodes made
  pub tight : Has nodes Loose → ⊥
  pub counted : branches nodes ≡ count
  pub within : count ≤ limit

-- leaves were added, and the next tree is to come
pub record IsFilling (g : Graph) (n : NetSaid) (t : Task) (before nodes : List TreeNode) (made : List Decision) : Type 0 where
  pub leaves : List TreeNode
  pub is : nodes ≡ before ++ leaves
  pub each : (node : TreeNode) → Has leaves node → IsLeafNode node
  pub opened : IsOpened g n t nodes made

module _ (g : Graph) (n : NetSaid) (t : Task) where
  pub searching_begins : (limit : ℕ) → IsSearching g n t limit [] [] 0
  searching_begins limit = record { opened = opened_none g n t; tight = λ has. has; counted = refl; within = omega arith }

  module _ (limit : ℕ) (xs : List TreeNode) (s : List Decision) (count : ℕ) (at : IsSearching g n t limit xs s count) (few : length t.needs < 2 ^ 32) where
    -- a leaf that closes the tree at hand
    module _ (y : TreeNode) (closes : Closes g n t s y) where
      still_tight : Has (xs ++ y ∷ []) Loose → ⊥
      still_tight has = elim (has_pushed xs y Loose has) [ inl front ↦ at.tight front | inr last ↦ closing_tight g n t s y closes.closing (sym last) ]

      pub closing_leaf : IsLeafNode y
      closing_leaf = let stands = closing_stands g n t s y few closes in stands.leaf

      pub closed_next : (new : List Decision) → GoesOn g t s new false → IsSearching g n t limit (xs ++ y ∷ []) new count
      closed_next new goes =
          let stands = closing_stands g n t s y few closes in
          record { opened = opened_next g n t xs s new at.opened y stands.stands stands.leaf goes; tight = still_tight; counted = leaf_counts xs y stands.leaf ∙ at.counted; within = at.within }

      pub closed_last : (new : List Decision) → GoesOn g t s new true → IsRefuted g n t (xs ++ y ∷ [])
      closed_last new goes =
          let stands = closing_stands g n t s y few closes in
          let w = opened_done g n t xs s new at.opened y stands.stands stands.leaf goes in
          record {
            refutes = record { whole = written_whole g n t (xs ++ y ∷ []) w; accepted = record { each = λ v has. let here = w.each v has in here.accepted }; tight = still_tight };
            tidy = λ v has. let here = w.each v has in here.tidy;
            writable = all_writable g n t (xs ++ y ∷ []) [] w;
          }

    -- a branch
    pub branched : (new : List Decision) (v : Var) (nodes : List TreeNode) → count < limit → HasHope g n t s → IsNextVar g n t s v → IsBranched g t s new v xs nodes → IsSearching g n t limit nodes new (count + 1)
    branched new v nodes below hope next b = record {
      opened = opened_branch g n t xs nodes s new v at.opened b (branch_stands g n t s new v xs nodes hope next b);
      tight = λ has. elim (has_pushed xs (Branch v b.kids) Loose (subst (λ l. Has l Loose) b.is has)) [ inl front ↦ at.tight front | inr last ↦ (let bad : ⊥ = cc last in bad) ];
      counted = ap branches b.is ∙ branches_append xs (Branch v b.kids ∷ []) ∙ ap (λ k. k + 1) at.counted;
      within = omega (arith, below);
    }

    -- the budget is spent where one more branch is wanted
    pub wants : (v : Var) → count ≡ limit → IsNextVar g n t s v → WantsMore g n t limit
    wants v full next =
        let kids = length (options g t s v) in
        let y = Branch v kids in
        let pushed = visits_push g n t xs s at.opened.rest at.opened.written y in
        let here : IsAccepted g n t s y = record { live = next.live; undecided = next.undecided; each = refl } in
        record {
          nodes = xs ++ y ∷ [];
          accepted = record {
            each = λ u has. elim (has_pushed (visits_of g t xs) (visit_of s y) u (subst (λ vs. Has vs u) pushed has)) [
              | inl front ↦ (let stands = at.opened.written.each u front in stands.accepted)
              | inr is ↦ subst (λ (w : Visit). IsAccepted g n t w.made w.node) (sym is) here
            ];
          };
          all = long y pushed;
          more = branches_append xs (y ∷ []) ∙ ap (λ k. k + 1) (at.counted ∙ full);
        }
      where
        long : (y : TreeNode) → visits_of g t (xs ++ y ∷ []) ≡ visits_of g t xs ++ visit_of s y ∷ [] → length (visits_of g t (xs ++ y ∷ [])) ≡ length (xs ++ y ∷ [])
        long y pushed =
            let same : length (visits_of g t xs) ≡ length xs = sym (length-map (visits_of g t xs) (λ (v : Visit). v.node)) ∙ ap length at.opened.written.all in
            ap length pushed ∙ length-append (visits_of g t xs) (visit_of s y ∷ []) ∙ ap (λ k. k + 1) same ∙ sym (length-append xs (y ∷ []))

    pub given_up : (v : Var) (nodes : List TreeNode) → ListsEnds g → count ≡ limit → IsNextVar g n t s v → IsLeftOpen g n t xs nodes → IsGivenUp g n t limit nodes
    given_up v nodes ends full next left = record {
      spent = record {
        whole = written_whole g n t nodes left.written;
        accepted = record { each = λ u has. let here = left.written.each u has in here.accepted };
        full = ap branches left.is ∙ branches_append xs (Loose ∷ left.leaves) ∙ omega (arith, no_branches left.leaves left.each, at.counted, full);
        loose = subst (λ l. Has l Loose) (sym left.is) (has_right xs (Loose ∷ left.leaves) Loose (inl refl));
        one_way = one_way g n t xs nodes s at.opened at.tight left ends;
        tidy = λ u has. let here = left.written.each u has in here.tidy;
      };
      wants = wants v full next;
      writable = all_writable g n t nodes [] left.written;
    }

  -- leaves for all that is to come

  pub filling_begins : (before : List TreeNode) (made : List Decision) → IsOpened g n t before made → IsFilling g n t before before made
  filling_begins before made o = record { leaves = []; is = sym (append-nil before); each = λ node has. absurd has; opened = o }

  more_leaves : (leaves : List TreeNode) (y : TreeNode) → ((node : TreeNode) → Has leaves node → IsLeafNode node) → IsLeafNode y → (node : TreeNode) → Has (leaves ++ y ∷ []) node → IsLeafNode node
  more_leaves leaves y each leaf node has = elim (has_pushed leaves y node has) [ inl front ↦ each node front | inr is ↦ subst IsLeafNode (sym is) leaf ]

  module _ (before xs : List TreeNode) (s : List Decision) (at : IsFilling g n t before xs s) (y : TreeNode) (here : StandsAsLeaf g n t s y) (new : List Decision) where
    pub filled_next : GoesOn g t s new false → IsFilling g n t before (xs ++ y ∷ []) new
    filled_next goes = record {
      leaves = at.leaves ++ y ∷ [];
      is = ap (λ l. l ++ y ∷ []) at.is ∙ append_assoc before at.leaves (y ∷ []);
      each = more_leaves at.leaves y at.each here.leaf;
      opened = opened_next g n t xs s new at.opened y here.stands here.leaf goes;
    }

    pub filled_last : GoesOn g t s new true → IsFilled g n t before (xs ++ y ∷ [])
    filled_last goes = record {
      leaves = at.leaves ++ y ∷ [];
      is = ap (λ l. l ++ y ∷ []) at.is ∙ append_assoc before at.leaves (y ∷ []);
      each = more_leaves at.leaves y at.each here.leaf;
      written = opened_done g n t xs s new at.opened y here.stands here.leaf goes;
    }

  -- the tree at hand is left open

  module _ (xs : List TreeNode) (s new : List Decision) (o : IsOpened g n t xs s) (hope : HasHope g n t s) where
    pub loose_next : GoesOn g t s new false → IsOpened g n t (xs ++ Loose ∷ []) new
    loose_next goes = let here = loose_stands g n t s hope in opened_next g n t xs s new o Loose here.stands here.leaf goes

    pub loose_last : GoesOn g t s new true → IsLeftOpen g n t xs (xs ++ Loose ∷ [])
    loose_last goes =
        let here = loose_stands g n t s hope in
        record { leaves = []; is = refl; each = λ node has. absurd has; written = opened_done g n t xs s new o Loose here.stands here.leaf goes }

  pub loose_filled : (xs nodes : List TreeNode) → IsFilled g n t (xs ++ Loose ∷ []) nodes → IsLeftOpen g n t xs nodes
  loose_filled xs nodes filled = record { leaves = filled.leaves; is = filled.is ∙ append_assoc xs (Loose ∷ []) filled.leaves; each = filled.each; written = filled.written }

-- sizes that each step keeps
pub sizes_kept : (old new : Decided) (instances pins atoms : ℕ) → old ≡ decided_on old.made instances pins atoms → new ≡ decided_on new.made old.instances old.pins old.atoms → new ≡ decided_on new.made instances pins atoms
sizes_kept old new instances pins atoms is kept = kept ∙ ap (λ (d : Decided). decided_on new.made d.instances d.pins d.atoms) is
