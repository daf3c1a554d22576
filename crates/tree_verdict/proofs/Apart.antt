-- No tree has two verdicts.
use Rattle.std.proofs.Common.{◌≡◌, ◌<◌, inl, inr, ℕ, List, [], ◌∷◌, refl, sym, ap, ◌∙◌, arith}
use Rattle.vtr_base.specs.Lists.{Has}
use Rattle.list_laws.proofs.Members.{has_at}
use Rattle.pb_expand.specs.Graph.{Graph}
use Rattle.task_types.specs.declared.task.Task.{Task}
use Rattle.task_types.specs.declared.tree.TreeNode.{TreeNode}
use Rattle.task_types.specs.declared.tree.TreeNode.TheVariants.{Branch, Homeless, Cut, Crowd, Loose}
use Rattle.task_types.specs.Nets.{NetSaid}
use Rattle.task_types.specs.Trees.{visits_of, AreAccepted, IsFirstWrong, loose_ends}
use Rattle.tree_verdict.specs.declared.verdict.Verdict.{Verdict}
use Rattle.tree_verdict.specs.declared.verdict.Verdict.TheVariants.{Refutes, Partial, Wrong}
use Rattle.tree_verdict.specs.Verdicts.{IsVerdict}

loose_there : (nodes : List TreeNode) → 0 < loose_ends nodes → Has nodes Loose
loose_there [] some = absurd (omega (arith, some))
loose_there (Loose ∷ nodes) some = inl refl
loose_there (Branch v kids ∷ nodes) some = inr (loose_there nodes some)
loose_there (Homeless atoms ∷ nodes) some = inr (loose_there nodes some)
loose_there (Cut need pins ∷ nodes) some = inr (loose_there nodes some)
loose_there (Crowd needs pins ∷ nodes) some = inr (loose_there nodes some)

not_wrong : (g : Graph) (n : NetSaid) (t : Task) (nodes : List TreeNode) (k : ℕ) → AreAccepted g n t (visits_of g t nodes) → IsFirstWrong g n t nodes k → ⊥
not_wrong g n t nodes k right wrong = wrong.refused (right.each wrong.wrong (has_at (visits_of g t nodes) k wrong.wrong wrong.is))

one_wrong : (g : Graph) (n : NetSaid) (t : Task) (nodes : List TreeNode) (j k : ℕ) → IsFirstWrong g n t nodes j → IsFirstWrong g n t nodes k → j ≡ k
one_wrong g n t nodes j k a b =
    let up : j < k → ⊥ = λ less. a.refused (b.before j a.wrong less a.is) in
    let down : k < j → ⊥ = λ less. b.refused (a.before k b.wrong less b.is) in
    omega (arith, up, down)

pub verdicts_agree : (g : Graph) (n : NetSaid) (t : Task) (nodes : List TreeNode) (a b : Verdict) → IsVerdict g n t nodes a → IsVerdict g n t nodes b → a ≡ b
verdicts_agree g n t nodes Refutes Refutes x y = refl
verdicts_agree g n t nodes Refutes (Partial count loose) x y = absurd (x.tight (loose_there nodes (omega (arith, y.some, y.loose_are))))
verdicts_agree g n t nodes Refutes (Wrong node) x y = absurd (not_wrong g n t nodes node x.accepted y)
verdicts_agree g n t nodes (Partial count loose) Refutes x y = absurd (y.tight (loose_there nodes (omega (arith, x.some, x.loose_are))))
verdicts_agree g n t nodes (Partial count loose) (Partial other ends) x y =
    ap (λ c. Partial c loose) (x.branches_are ∙ sym y.branches_are) ∙ ap (λ l. Partial other l) (x.loose_are ∙ sym y.loose_are)
verdicts_agree g n t nodes (Partial count loose) (Wrong node) x y = absurd (not_wrong g n t nodes node x.accepted y)
verdicts_agree g n t nodes (Wrong node) Refutes x y = absurd (not_wrong g n t nodes node y.accepted x)
verdicts_agree g n t nodes (Wrong node) (Partial count loose) x y = absurd (not_wrong g n t nodes node y.accepted x)
verdicts_agree g n t nodes (Wrong node) (Wrong other) x y = ap (λ k. Wrong k) (one_wrong g n t nodes node other x y)
