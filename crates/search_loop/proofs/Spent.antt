-- All but the branches on one way down stand in parts that are closed.
use Rattle.std.proofs.Common.{◌≡◌, ◌≢◌, ◌⊎◌, inl, inr, ℕ, suc, List, [], ◌∷◌, ◌++◌, Some, length, slice_get, refl, sym, ap, ◌∙◌, subst}
use Rattle.vtr_base.specs.Lists.{Has}
use Rattle.list_laws.proofs.Members.{has_at, has_either}
use Rattle.pb_expand.specs.Ends.{ListsEnds}
use Rattle.pb_expand.specs.Graph.{Graph}
use Rattle.task_types.specs.declared.task.Task.{Task}
use Rattle.task_types.specs.declared.tree.TreeNode.{TreeNode}
use Rattle.task_types.specs.declared.tree.TreeNode.TheVariants.{Loose}
use Rattle.task_types.specs.declared.decision.Decision.{Decision}
use Rattle.task_types.specs.Nets.{NetSaid}
use Rattle.task_types.specs.Tidy.{StandsUnder, IsLooseChild}
use Rattle.task_types.specs.Trees.{Visit, visit_of, visits, visits_of, under}
use Rattle.search_loop.specs.Writing.{IsLeafNode, IsOpened, IsLeftOpen}
use Rattle.search_loop.proofs.Apart.{EndsWith, ends_over, same_ends, visits_once}
use Rattle.search_loop.proofs.Paths.{owed_beside}
use Rattle.search_loop.proofs.Written.{visits_append, no_under, visit_has}

some_same : {X : Type 0} {x y : X} → Some x ≡ Some y → x ≡ y
some_same e = cc

-- leaves stand at the trees that were to come
leaf_visits : (g : Graph) (t : Task) (todo : List (List Decision)) (leaves : List TreeNode) → ((node : TreeNode) → Has leaves node → IsLeafNode node) → (v : Visit) → Has (visits g t todo leaves) v → Has todo v.made
leaf_visits g t todo [] each v has = absurd has
leaf_visits g t [] (x ∷ leaves) each v has = absurd has
leaf_visits g t (s ∷ todo) (x ∷ leaves) each v (inl is) = inl (ap (λ (u : Visit). u.made) is)
leaf_visits g t (s ∷ todo) (x ∷ leaves) each v (inr has) =
    let none = no_under g t s x (each x (inl refl)) in
    inr (leaf_visits g t todo leaves (λ node later. each node (inr later)) v (subst (λ l. Has (visits g t (l ++ todo) leaves) v) none has))

module _ (g : Graph) (n : NetSaid) (t : Task) (xs nodes : List TreeNode) (stop : List Decision) (o : IsOpened g n t xs stop) (tight : Has xs Loose → ⊥) (open' : IsLeftOpen g n t xs nodes) where
  visits_are : visits_of g t nodes ≡ visits_of g t xs ++ visit_of stop Loose ∷ visits g t o.rest open'.leaves
  visits_are = ap (λ l. visits_of g t l) open'.is ∙ visits_append g t ([] ∷ []) xs (Loose ∷ open'.leaves) ∙ ap (λ todo. visits_of g t xs ++ visits g t todo (Loose ∷ open'.leaves)) o.written.comes

  -- a loose node stands where the search gave up, or at a tree that was to come then
  loose_at : (v : Visit) → Has (visits_of g t nodes) v → v.node ≡ Loose → (v.made ≡ stop) ⊎ Has o.rest v.made
  loose_at v has loose = elim (has_either (visits_of g t xs) (visit_of stop Loose ∷ visits g t o.rest open'.leaves) v (subst (λ vs. Has vs v) visits_are has)) [
    | inl front ↦ absurd (tight (subst (λ x. Has xs x) loose (visit_has g n t xs (stop ∷ o.rest) o.written v front)))
    | inr (inl is) ↦ inl (ap (λ (u : Visit). u.made) is)
    | inr (inr behind) ↦ inr (leaf_visits g t o.rest open'.leaves open'.each v behind)
  ]

  -- what stands above a loose node stands above where the search gave up
  above_stop : (child : Visit) (above : ℕ) → slice_get (visits_of g t nodes) above ≡ Some child → (loose : ℕ) → ((v : Visit) → slice_get (visits_of g t nodes) loose ≡ Some v → v.node ≡ Loose) →
      StandsUnder (visits_of g t nodes) above loose → EndsWith stop child.made
  above_stop child above is loose is_loose under =
      let same : under.upper ≡ child = some_same (sym under.is_upper ∙ is) in
      let at : under.lower.made ≡ under.more ++ child.made = under.made ∙ ap (λ (v : Visit). under.more ++ v.made) same in
      elim (loose_at under.lower (has_at (visits_of g t nodes) loose under.lower under.is_lower) (is_loose under.lower under.is_lower)) [
        | inl stops ↦ record { more = under.more; is = sym stops ∙ at }
        | inr later ↦ (
            let b = owed_beside g t stop o.rest under.lower.made o.owes later in
            let ends : EndsWith (b.option ∷ b.below) child.made = record { more = under.more; is = sym b.is ∙ at } in
            let on : EndsWith stop b.below = record { more = b.more; is = b.on } in
            ends_over stop b.below child.made on (deeper b.option b.below child.made under.more under.some (sym b.is ∙ at)))
      ]
    where
      deeper : (o : Decision) (below made more : List Decision) → more ≢ [] → o ∷ below ≡ more ++ made → EndsWith below made
      deeper o below made [] some is = absurd (some refl)
      deeper o below made (d ∷ more) some is = let rest : below ≡ more ++ made = cc is in record { more = more; is = rest }

  pub one_way : ListsEnds g → (above i j : ℕ) → IsLooseChild (visits_of g t nodes) above i → IsLooseChild (visits_of g t nodes) above j → i ≡ j
  one_way ends above i j a b =
      let upper : a.upper ≡ b.upper = some_same (sym a.is_upper ∙ b.is_upper) in
      let ea = above_stop a.lower i a.is_lower a.loose a.is_loose a.under in
      let eb = above_stop b.lower j b.is_lower b.loose b.is_loose b.under in
      let long : length a.lower.made ≡ length b.lower.made = ap length a.made ∙ ap (λ (v : Visit). suc (length v.made)) upper ∙ sym (ap length b.made) in
      let same = same_ends stop a.lower.made b.lower.made ea eb long in
      visits_once g n t ends ([] ∷ []) nodes (λ y has. absurd has, tt) (λ v has. let s = open'.written.each v has in s.accepted) i j a.lower b.lower a.is_lower b.is_lower same
