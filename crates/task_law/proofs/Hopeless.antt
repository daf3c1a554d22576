-- Where a tree refutes, nothing realises the task: by recursion on the nodes, with what is decided above the trees to come.
use Rattle.std.proofs.Common.{◌≡◌, ◌<◌, ◌+◌, inl, inr, ℕ, zero, suc, List, [], ◌∷◌, ◌++◌, length, refl, arith, length-append}
use Rattle.std.specs.List.{AllByRecursion}
use Rattle.vtr_base.specs.Lists.{Has}
use Rattle.pb_expand.specs.Graph.{Graph}
use Rattle.pb_expand.specs.Ends.{ListsEnds}
use Rattle.pb_expand.specs.Kept.{HasSides}
use Rattle.prog_map.specs.Choices.{Choices, with_mode}
use Rattle.prog_map.specs.Settings.{SetsMode}
use Rattle.prog_map.specs.Walk.{IsSource}
use Rattle.task_types.specs.declared.task.Task.{Task}
use Rattle.task_types.specs.declared.tree.Var.{Var}
use Rattle.task_types.specs.declared.tree.TreeNode.{TreeNode}
use Rattle.task_types.specs.declared.tree.TreeNode.TheVariants.{Branch, Homeless, Cut, Crowd, Loose}
use Rattle.task_types.specs.declared.decision.Decision.{Decision}
use Rattle.task_types.specs.Nets.{NetSaid, HasOneNet}
use Rattle.task_types.specs.Tasks.{HasNetsOnce}
use Rattle.task_types.specs.Realises.{NothingRealises}
use Rattle.task_types.specs.Options.{options}
use Rattle.task_types.specs.Nodes.{IsAccepted}
use Rattle.task_types.specs.Trees.{Visit, visit_of, visits, children, AreTrees, Refutes}
use Rattle.task_law.proofs.Covers.{IsHopeless, branch_covers}
use Rattle.task_law.proofs.Bars.{cut_bars, homeless_bars}
use Rattle.task_law.proofs.Crowds.{crowd_bars}

length_children : (made : List Decision) (k : ℕ) (os : List Decision) → length (children made k os) ≡ k
length_children made zero os = refl
length_children made (suc k) [] = let rest = length_children made k [] in omega (arith, rest)
length_children made (suc k) (o ∷ os) = let rest = length_children made k os in omega (arith, rest)

rest_of : {X : Type 0} (P : X → Type 0) (xs ys : List X) → AllByRecursion P (xs ++ ys) → AllByRecursion P ys
rest_of P [] ys all = all
rest_of P (x ∷ xs) ys all = rest_of P xs ys all.1

module _ (g : Graph) (n : NetSaid) (t : Task) (sides : HasSides g) (lists : ListsEnds g)
    (sets : (c : Choices) (pb mode : ℕ) → SetsMode c (with_mode c pb mode) pb mode)
    (one : (c : Choices) (p a b : ℕ) → IsSource g c p a → IsSource g c p b → a ≡ b)
    (nets : HasOneNet n) (once : HasNetsOnce t) where
  abbrev AreRight : List (List Decision) → List TreeNode → Type 0
  AreRight todo nodes = (v : Visit) → Has (visits g t todo nodes) v → IsAccepted g n t v.made v.node

  abbrev HaveKids : List TreeNode → Type 0
  HaveKids nodes = (v : Var) (kids : ℕ) → Has nodes (Branch v kids) → 0 < kids

  all_hopeless : (k : ℕ) (todo : List (List Decision)) (nodes : List TreeNode) → k ≡ length todo → AreTrees k nodes → HaveKids nodes → AreRight todo nodes → (Has nodes Loose → ⊥) →
      AllByRecursion (IsHopeless g n t) todo
  all_hopeless k [] nodes counted trees kids right tight = tt
  all_hopeless k (made ∷ todo) [] counted trees kids right tight = absurd (let none : k ≡ 0 = trees in omega (arith, counted, none))
  all_hopeless zero (made ∷ todo) (x ∷ nodes) counted trees kids right tight = absurd trees
  all_hopeless (suc k) (made ∷ todo) (Branch v count ∷ nodes) counted trees kids right tight =
      let rest = all_hopeless (count + k) (children made count (options g t made v) ++ todo) nodes
      (omega (arith, counted, length-append (children made count (options g t made v)) todo, length_children made count (options g t made v))) trees
      (λ w c has. kids w c (inr has)) (λ w has. right w (inr has)) (λ has. tight (inr has)) in (
        branch_covers g n t lists sets made v count todo (kids v count (inl refl)) (right (visit_of made (Branch v count)) (inl refl)) rest,
        rest_of (IsHopeless g n t) (children made count (options g t made v)) todo rest,
      )
  all_hopeless (suc k) (made ∷ todo) (Homeless atoms ∷ nodes) counted trees kids right tight = (
    λ r real agrees. homeless_bars g n t r real made agrees atoms (right (visit_of made (Homeless atoms)) (inl refl)),
    all_hopeless (0 + k) todo nodes (omega (arith, counted)) trees (λ w c has. kids w c (inr has)) (λ w has. right w (inr has)) (λ has. tight (inr has)),
  )
  all_hopeless (suc k) (made ∷ todo) (Cut need pins ∷ nodes) counted trees kids right tight = (
    λ r real agrees. cut_bars g n t r real made agrees need pins (right (visit_of made (Cut need pins)) (inl refl)),
    all_hopeless (0 + k) todo nodes (omega (arith, counted)) trees (λ w c has. kids w c (inr has)) (λ w has. right w (inr has)) (λ has. tight (inr has)),
  )
  all_hopeless (suc k) (made ∷ todo) (Crowd needs pins ∷ nodes) counted trees kids right tight = (
    λ r real agrees. crowd_bars g n t sides one nets once r real made agrees needs pins (right (visit_of made (Crowd needs pins)) (inl refl)),
    all_hopeless (0 + k) todo nodes (omega (arith, counted)) trees (λ w c has. kids w c (inr has)) (λ w has. right w (inr has)) (λ has. tight (inr has)),
  )
  all_hopeless (suc k) (made ∷ todo) (Loose ∷ nodes) counted trees kids right tight = absurd (tight (inl refl))

  pub refuted : (nodes : List TreeNode) → Refutes g n t nodes → NothingRealises g n t
  refuted nodes h r real = (all_hopeless 1 ([] ∷ []) nodes refl h.whole.one h.whole.kids h.accepted.each h.tight).0 r real tt
