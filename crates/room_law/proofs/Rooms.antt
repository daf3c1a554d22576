-- Accepted nodes have no more branches than what is decided above the trees to come leaves room for.
use Rattle.std.proofs.Common.{◌≡◌, ◌≤◌, ◌<◌, ◌+◌, ◌*◌, inl, inr, ℕ, zero, suc, Bool, true, false, List, [], ◌∷◌, ◌++◌, length, refl, sym, ap, ◌∙◌, subst, arith}
use Rattle.std.proofs.lemmas.Nat.{mul-le}
use Rattle.std.proofs.Math.Nat.{le_refl, mul_comm, mul_assoc, add-mul, le_of_mul-le-mul_right}
use Rattle.vtr_base.specs.Lists.{Has}
use Rattle.pb_expand.specs.Graph.{Graph}
use Rattle.task_types.specs.declared.task.Task.{Task}
use Rattle.task_types.specs.declared.tree.Var.{Var}
use Rattle.task_types.specs.declared.tree.TreeNode.{TreeNode}
use Rattle.task_types.specs.declared.tree.TreeNode.TheVariants.{Branch, Homeless, Cut, Crowd, Loose}
use Rattle.task_types.specs.declared.decision.Decision.{Decision}
use Rattle.task_types.specs.Nets.{NetSaid}
use Rattle.task_types.specs.Options.{options}
use Rattle.task_types.specs.Nodes.{IsBranch, IsAccepted}
use Rattle.task_types.specs.Trees.{Visit, visit_of, visits, visits_of, children, under, AreAccepted, branches}
use Rattle.task_room.specs.Room.{choices_of, product_of, AreVars, IsRoom}
use Rattle.search_rules.specs.Left.{HasSomeModes}
use Rattle.room_law.proofs.Shrinks as shrinks
use Rattle.room_law.proofs.Shrinks.{le_trans}
use Rattle.room_law.proofs.Options.{is_left, all_left, left_undecided, left_before, decides, fewer_options, some_options, live_there}

module _ (g : Graph) (n : NetSaid) (t : Task) (vars : List Var) (are : AreVars g t vars) (some : HasSomeModes g) where
  abbrev count : List Decision → ℕ
  count made = shrinks.count_of (choices_of g t) (is_left made) vars

  abbrev product : List Decision → ℕ
  product made = shrinks.product_of (choices_of g t) (is_left made) vars

  abbrev weight : List Decision → ℕ
  weight made = count made * product made

  abbrev weigh : List (List Decision) → ℕ
  weigh [] = 0
  weigh (made ∷ todo) = weight made + weigh todo

  are_some : shrinks.AreSome (choices_of g t) vars
  are_some v has = some_options g t v some ((are.exact v).0 has)

  weigh_both : (a b : List (List Decision)) → weigh (a ++ b) ≡ weigh a + weigh b
  weigh_both [] b = omega arith
  weigh_both (made ∷ a) b = let rest = weigh_both a b in omega (arith, rest)

  -- one option more leaves less by the number of options
  child_light : (made : List Decision) (v : Var) (o : Decision) (kids : ℕ) → IsBranch g t made v kids → Has (options g t made v) o →
      (m : ℕ) → count made ≡ suc m → weight (o ∷ made) * choices_of g t v ≤ m * product made
  child_light made v o kids branch has m is =
      let there = (are.exact v).1 (live_there g t made v branch.live) in
      let within = left_before o made in
      let gone = decides g t made v o has in
      let was = left_undecided made v branch.undecided in
      let few = shrinks.fewer (choices_of g t) (is_left (o ∷ made)) (is_left made) vars v within there was gone in
      let small = shrinks.smaller (choices_of g t) (is_left (o ∷ made)) (is_left made) vars v are_some within there was gone in
      let c = shrinks.count_of (choices_of g t) (is_left (o ∷ made)) vars in
      let p = shrinks.product_of (choices_of g t) (is_left (o ∷ made)) vars in
      let low : c ≤ m = omega (arith, few, is) in
      subst (λ x. x ≤ m * product made) (sym (mul_assoc c p (choices_of g t v))) (mul-le c (p * choices_of g t v) m (product made) low small)

  -- children together
  children_light : (made : List Decision) (os : List Decision) (c most : ℕ) → ((o : Decision) → Has os o → weight (o ∷ made) * c ≤ most) →
      weigh (children made (length os) os) * c ≤ length os * most
  children_light made [] c most each = omega arith
  children_light made (o ∷ os) c most each =
      let here = each o (inl refl) in
      let rest = children_light made os c most (λ x has. each x (inr has)) in
      sum_light (weight (o ∷ made)) (weigh (children made (length os) os)) c most (length os) here rest
    where
      sum_light : (a b c most k : ℕ) → a * c ≤ most → b * c ≤ k * most → (a + b) * c ≤ suc k * most
      sum_light a b c most k p q = subst (λ x. x ≤ suc k * most) (sym (add-mul a b c)) (omega (arith, p, q))

  product_here : (made : List Decision) → 1 ≤ product made
  product_here made = shrinks.product_some (choices_of g t) (is_left made) vars are_some

  weight_is : (made : List Decision) (c : ℕ) → count made ≡ c → weight made ≡ c * product made
  weight_is made c is = ap (λ x. x * product made) is

  add_one : (m p w : ℕ) → 1 ≤ p → w ≤ m * p → 1 + w ≤ suc m * p
  add_one m p w one few = omega (arith, one, few)

  some_left : (left : Var → Bool) (vs : List Var) (v : Var) → Has vs v → left v ≡ true → 1 ≤ shrinks.count_of (choices_of g t) left vs
  some_left left [] v has is = absurd has
  some_left left (w ∷ vs) v (inl same) is =
      let one : shrinks.one_if (choices_of g t) (left w) ≡ 1 = ap (shrinks.one_if (choices_of g t)) (ap left (sym same) ∙ is) in
      omega (arith, one)
  some_left left (w ∷ vs) v (inr has) is = omega (arith, some_left left vs v has is)

  -- a branch with its children
  branch_light : (made : List Decision) (v : Var) (kids : ℕ) → IsBranch g t made v kids → 1 + weigh (children made kids (options g t made v)) ≤ weight made
  branch_light made v kids branch = by_count (count made) refl
    where
      there : Has vars v
      there = (are.exact v).1 (live_there g t made v branch.live)

      one_left : 1 ≤ count made
      one_left = some_left (is_left made) vars v there (left_undecided made v branch.undecided)

      by_count : (c : ℕ) → count made ≡ c → 1 + weigh (children made kids (options g t made v)) ≤ weight made
      by_count zero is = absurd (omega (arith, one_left, is))
      by_count (suc m) is =
          let os = options g t made v in
          let c = choices_of g t v in
          let all = children_light made os c (m * product made) (λ o has. child_light made v o kids branch has m is) in
          let few : length os ≤ c = fewer_options g t made v in
          let sum : weigh (children made (length os) os) * c ≤ c * (m * product made) =
          le_trans (weigh (children made (length os) os) * c) (length os * (m * product made)) (c * (m * product made)) all
          (mul-le (length os) (m * product made) c (m * product made) few (le_refl (m * product made))) in
          let turned : weigh (children made (length os) os) * c ≤ (m * product made) * c = subst (λ x. weigh (children made (length os) os) * c ≤ x) (mul_comm c (m * product made)) sum in
          let cut : weigh (children made (length os) os) ≤ m * product made = le_of_mul-le-mul_right turned (are_some v there) in
          let here : weigh (children made kids os) ≤ m * product made = subst (λ k. weigh (children made k os) ≤ m * product made) (sym branch.each) cut in
          let one : 1 ≤ product made = product_here made in
          let whole : weight made ≡ suc m * product made = weight_is made (suc m) is in
          subst (λ x. 1 + weigh (children made kids os) ≤ x) (sym whole) (add_one m (product made) (weigh (children made kids os)) one here)

  bound : (nodes : List TreeNode) (todo : List (List Decision)) → ((v : Visit) → Has (visits g t todo nodes) v → IsAccepted g n t v.made v.node) →
      length (visits g t todo nodes) ≡ length nodes → branches nodes ≤ weigh todo
  bound [] todo each long = omega arith
  bound (node ∷ nodes) [] each long = absurd (omega (arith, long))
  bound (node ∷ nodes) (made ∷ todo) each long = by_node node (each (visit_of made node) (inl refl)) (bound nodes (under g t made node ++ todo) (λ v has. each v (inr has)) (omega (arith, long)))
    where
      by_node : (x : TreeNode) → IsAccepted g n t made x → branches nodes ≤ weigh (under g t made x ++ todo) → branches (x ∷ nodes) ≤ weigh (made ∷ todo)
      by_node (Branch v kids) branch rest = omega (arith, rest, weigh_both (children made kids (options g t made v)) todo, branch_light made v kids branch)
      by_node (Homeless atoms) is rest = omega (arith, rest)
      by_node (Cut need pins) is rest = omega (arith, rest)
      by_node (Crowd needs pins) is rest = omega (arith, rest)
      by_node Loose is rest = omega (arith, rest)

  -- where nothing is decided, all is left
  count_all : (vs : List Var) → shrinks.count_of (choices_of g t) (is_left []) vs ≡ length vs
  count_all [] = refl
  count_all (v ∷ vs) =
      let here : shrinks.one_if (choices_of g t) (is_left [] v) ≡ 1 = ap (shrinks.one_if (choices_of g t)) (all_left v) in
      omega (arith, here, count_all vs)

  product_all : (vs : List Var) → shrinks.product_of (choices_of g t) (is_left []) vs ≡ product_of g t vs
  product_all [] = refl
  product_all (v ∷ vs) =
      ap (λ b. shrinks.size_if (choices_of g t) b v * shrinks.product_of (choices_of g t) (is_left []) vs) (all_left v) ∙ ap (λ p. choices_of g t v * p) (product_all vs)

  pub in_room : (nodes : List TreeNode) → AreAccepted g n t (visits_of g t nodes) → length (visits_of g t nodes) ≡ length nodes → branches nodes ≤ length vars * product_of g t vars
  in_room nodes accepted long =
      let all = bound nodes ([] ∷ []) accepted.each long in
      subst (λ c. branches nodes ≤ c * product_of g t vars) (count_all vars)
      (subst (λ p. branches nodes ≤ shrinks.count_of (choices_of g t) (is_left []) vars * p) (product_all vars) (omega (arith, all)))

pub within_room : (g : Graph) (n : NetSaid) (t : Task) (nodes : List TreeNode) (room : ℕ) → HasSomeModes g → IsRoom g t room → AreAccepted g n t (visits_of g t nodes) →
    length (visits_of g t nodes) ≡ length nodes → branches nodes ≤ room
within_room g n t nodes room some is accepted long = subst (λ r. branches nodes ≤ r) (sym is.is) (in_room g n t is.vars is.are some nodes accepted long)
