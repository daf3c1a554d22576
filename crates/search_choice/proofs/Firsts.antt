-- The first variables that are open, and what is decided where none is.
use Rattle.std.proofs.Common.{◌≡◌, ◌+◌, ◌<◌, ℕ, List, Option, Some, None, IsSome, length, refl, inl, inr, subst, arith}
use Rattle.std.proofs.lemmas.Bool.{cases_lt}
use Rattle.pb_expand.specs.Graph.{Graph, pb_ix}
use Rattle.task_types.specs.declared.task.Task.{Task}
use Rattle.task_types.specs.declared.tree.Var.TheVariants as var
use Rattle.task_types.specs.declared.decision.Decision.{Decision}
use Rattle.task_types.specs.Decisions.{mode_in, occupant_in}
use Rattle.task_types.specs.Tidy.{AreModesDecided}
use Rattle.search_rules.specs.Left.{AreLeavesDecided}
use Rattle.search_choice.specs.Opens.{IsOpenVar}

known : {X : Type 0} (o : Option X) → (o ≡ None → ⊥) → IsSome o
known None some = absurd (some refl)
known (Some x) some = cc

pub none_more : (P : ℕ → Type 0) (n : ℕ) → ((k : ℕ) → k < n → P k → ⊥) → (P n → ⊥) → (k : ℕ) → k < n + 1 → P k → ⊥
none_more P n before here k less is = elim (cases_lt k n) [
  | inl old ↦ before k old is
  | inr met ↦ (let same : k ≡ n = omega (arith, met, less) in here (subst P same is))
]

module _ (g : Graph) (t : Task) (made : List Decision) (count : ℕ) (all : count ≡ length g.instances) where
  pub modes_all : ((k : ℕ) → k < count → IsOpenVar g t made (var.Mode (pb_ix k)) → ⊥) → AreModesDecided g made
  modes_all none = record {
    each = λ pb has live. known (mode_in made pb) (λ undecided. none pb (let less = live.inside in omega (arith, less, all)) (record { live = (has, live); undecided = undecided }));
  }

  pub leaves_all : ((k : ℕ) → k < count → IsOpenVar g t made (var.Occupant (pb_ix k)) → ⊥) → AreLeavesDecided g made
  leaves_all none = record {
    each = λ leaf is live. known (occupant_in made leaf) (λ undecided. none leaf (let less = live.inside in omega (arith, less, all)) (record { live = (is, live); undecided = undecided }));
  }
