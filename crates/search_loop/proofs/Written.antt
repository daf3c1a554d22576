-- Nodes that are written one behind the other.
use Rattle.std.proofs.Common.{◌≡◌, ◌<◌, ◌+◌, inl, inr, ℕ, zero, suc, true, false, List, [], ◌∷◌, ◌++◌, map, length, refl, sym, ap, ◌∙◌, subst, arith, append_assoc, append-nil, length-append}
use Rattle.std.proofs.lemmas.List.{map-append}
use Rattle.vtr_base.specs.Lists.{Has}
use Rattle.list_laws.proofs.Members.{has_pushed, from_map, has_map}
use Rattle.pb_expand.specs.Graph.{Graph}
use Rattle.task_types.specs.declared.task.Task.{Task}
use Rattle.task_types.specs.declared.tree.Var.{Var}
use Rattle.task_types.specs.declared.tree.TreeNode.{TreeNode}
use Rattle.task_types.specs.declared.tree.TreeNode.TheVariants.{Branch, Homeless, Cut, Crowd, Loose}
use Rattle.task_types.specs.declared.decision.Decision.{Decision}
use Rattle.task_types.specs.Nets.{NetSaid}
use Rattle.task_types.specs.Options.{options}
use Rattle.task_types.specs.Trees.{Visit, visit_of, visits, visits_of, under, children, kids_of, AreTrees, IsWholeTree}
use Rattle.tree_steps.specs.Owing.{Owes, StandsAt}
use Rattle.search_loop.specs.Writing.{pending, Stands, IsLeafNode, IsWritten, IsOpened, GoesOn, IsBranched}

pub pending_append : (g : Graph) (t : Task) (todo : List (List Decision)) (xs ys : List TreeNode) → pending g t todo (xs ++ ys) ≡ pending g t (pending g t todo xs) ys
pending_append g t todo [] ys = refl
pending_append g t [] (x ∷ xs) [] = refl
pending_append g t [] (x ∷ xs) (y ∷ ys) = refl
pending_append g t (s ∷ todo) (x ∷ xs) ys = pending_append g t (under g t s x ++ todo) xs ys

pub visits_append : (g : Graph) (t : Task) (todo : List (List Decision)) (xs ys : List TreeNode) → visits g t todo (xs ++ ys) ≡ visits g t todo xs ++ visits g t (pending g t todo xs) ys
visits_append g t todo [] ys = refl
visits_append g t [] (x ∷ xs) [] = refl
visits_append g t [] (x ∷ xs) (y ∷ ys) = refl
visits_append g t (s ∷ todo) (x ∷ xs) ys = ap (λ vs. visit_of s x ∷ vs) (visits_append g t (under g t s x ++ todo) xs ys)

child_count : (made : List Decision) (kids : ℕ) (os : List Decision) → length (children made kids os) ≡ kids
child_count made zero os = refl
child_count made (suc kids) [] = ap suc (child_count made kids [])
child_count made (suc kids) (o ∷ os) = ap suc (child_count made kids os)

pub under_count : (g : Graph) (t : Task) (made : List Decision) (node : TreeNode) → length (under g t made node) ≡ kids_of node
under_count g t made (Branch v kids) = child_count made kids (options g t made v)
under_count g t made (Homeless atoms) = refl
under_count g t made (Cut need pins) = refl
under_count g t made (Crowd needs pins) = refl
under_count g t made Loose = refl

pub no_under : (g : Graph) (t : Task) (made : List Decision) (node : TreeNode) → IsLeafNode node → under g t made node ≡ []
no_under g t made (Branch v kids) leaf = absurd leaf
no_under g t made (Homeless atoms) leaf = refl
no_under g t made (Cut need pins) leaf = refl
no_under g t made (Crowd needs pins) leaf = refl
no_under g t made Loose leaf = refl

some_first : (g : Graph) (t : Task) (made : List Decision) (todo : List (List Decision)) → 0 < length todo → StandsAt g t made todo → (rest : List (List Decision)) × (todo ≡ made ∷ rest) × Owes g t made rest
some_first g t made [] some stands = absurd (omega (arith, some))
some_first g t made (first ∷ rest) some stands = (rest, ap (λ m. m ∷ rest) stands.0, stands.1)

module _ (g : Graph) (n : NetSaid) (t : Task) where
  pub written_none : IsWritten g n t [] ([] ∷ [])
  written_none = record { comes = refl; each = λ v has. absurd has; all = refl; whole = λ k is rest trees. subst (λ k. AreTrees k rest) is trees }

  pub opened_none : IsOpened g n t [] []
  opened_none = record { rest = []; written = written_none; owes = refl }

  module _ (xs : List TreeNode) (s : List Decision) (rest : List (List Decision)) (w : IsWritten g n t xs (s ∷ rest)) (y : TreeNode) where
    pub visits_push : visits_of g t (xs ++ y ∷ []) ≡ visits_of g t xs ++ visit_of s y ∷ []
    visits_push = visits_append g t ([] ∷ []) xs (y ∷ []) ∙ ap (λ todo. visits_of g t xs ++ visits g t todo (y ∷ [])) w.comes

    pub written_push : Stands g n t s y → IsWritten g n t (xs ++ y ∷ []) (under g t s y ++ rest)
    written_push here = record {
      comes = pending_append g t ([] ∷ []) xs (y ∷ []) ∙ ap (λ todo. pending g t todo (y ∷ [])) w.comes;
      each = λ v has. elim (has_pushed (visits_of g t xs) (visit_of s y) v (subst (λ vs. Has vs v) visits_push has)) [
        | inl front ↦ w.each v front
        | inr is ↦ subst (λ (u : Visit). Stands g n t u.made u.node) (sym is) here
      ];
      all = ap (λ vs. map (λ (v : Visit). v.node) vs) visits_push ∙ map-append (λ (v : Visit). v.node) (visits_of g t xs) (visit_of s y ∷ []) ∙ ap (λ l. l ++ y ∷ []) w.all;
      whole = λ k is more trees. subst (λ l. AreTrees 1 l) (sym (append_assoc xs (y ∷ []) more)) (w.whole (suc (length rest)) refl (y ∷ more)
          (subst (λ k. AreTrees k more) (is ∙ length-append (under g t s y) rest ∙ ap (λ k. k + length rest) (under_count g t s y)) trees));
    }

    pub written_leaf : Stands g n t s y → IsLeafNode y → IsWritten g n t (xs ++ y ∷ []) rest
    written_leaf here leaf = subst (λ l. IsWritten g n t (xs ++ y ∷ []) (l ++ rest)) (no_under g t s y leaf) (written_push here)

  module _ (xs : List TreeNode) (old new : List Decision) (o : IsOpened g n t xs old) (y : TreeNode) where
    -- behind a leaf the next tree is to come, or none
    pub opened_next : Stands g n t old y → IsLeafNode y → GoesOn g t old new false → IsOpened g n t (xs ++ y ∷ []) new
    opened_next here leaf goes =
        let to = goes.each o.rest o.owes in
        record {
          rest = to.0;
          written = subst (λ todo. IsWritten g n t (xs ++ y ∷ []) todo) to.1 (written_leaf xs old o.rest o.written y here leaf);
          owes = to.2;
        }

    pub opened_done : Stands g n t old y → IsLeafNode y → GoesOn g t old new true → IsWritten g n t (xs ++ y ∷ []) []
    opened_done here leaf goes = subst (λ todo. IsWritten g n t (xs ++ y ∷ []) todo) (goes.each o.rest o.owes) (written_leaf xs old o.rest o.written y here leaf)

  -- behind a branch its first child is to come
  pub opened_branch : (xs nodes : List TreeNode) (old new : List Decision) (v : Var) (o : IsOpened g n t xs old) (b : IsBranched g t old new v xs nodes) → Stands g n t old (Branch v b.kids) → IsOpened g n t nodes new
  opened_branch xs nodes old new v o b here =
      let todo = under g t old (Branch v b.kids) ++ o.rest in
      let some : 0 < length todo = omega (arith, b.some, length-append (under g t old (Branch v b.kids)) o.rest, under_count g t old (Branch v b.kids)) in
      let to = some_first g t new todo some (b.stands o.rest o.owes) in
      record {
        rest = to.0;
        written = subst (λ ns. IsWritten g n t ns (new ∷ to.0)) (sym b.is) (subst (λ l. IsWritten g n t (xs ++ Branch v b.kids ∷ []) l) to.1 (written_push xs old o.rest o.written (Branch v b.kids) here));
        owes = to.2;
      }

  -- what holds of the nodes that were written

  module _ (xs : List TreeNode) (todo : List (List Decision)) (w : IsWritten g n t xs todo) where
    pub node_stands : (x : TreeNode) → Has xs x → (made : List Decision) × Stands g n t made x
    node_stands x has =
        let r = from_map (λ (v : Visit). v.node) (visits_of g t xs) x (subst (λ ns. Has ns x) (sym w.all) has) in
        (r.item.made, subst (λ y. Stands g n t r.item.made y) (sym r.is) (w.each r.item r.has))

    pub visit_has : (v : Visit) → Has (visits_of g t xs) v → Has xs v.node
    visit_has v has = subst (λ ns. Has ns v.node) w.all (has_map (λ (v : Visit). v.node) (visits_of g t xs) v has)

    pub branch_kids : (v : Var) (kids : ℕ) → Has xs (Branch v kids) → 0 < kids
    branch_kids v kids has = let r = node_stands (Branch v kids) has in r.1.entered.1

  pub written_whole : (xs : List TreeNode) → IsWritten g n t xs [] → IsWholeTree xs
  written_whole xs w = record { one = subst (λ l. AreTrees 1 l) (append-nil xs) (w.whole 0 refl [] refl); kids = branch_kids xs [] w }
