-- How paths grow.
use Rattle.std.proofs.Common.{◌≡◌, inl, inr, List, [], ◌∷◌, ◌++◌, map, refl, sym, ap, ◌∙◌, subst}
use Rattle.vtr_base.specs.Lists.{Has}
use Rattle.pb_expand.specs.Graph.{Graph}
use Rattle.task_types.specs.declared.task.Task.{Task}
use Rattle.task_types.specs.declared.tree.Var.{Var}
use Rattle.task_types.specs.declared.decision.Decision.{Decision}
use Rattle.task_types.specs.Options.{options, IsLiveVar, IsUndecided}
use Rattle.task_options.specs.Choosing.{var_of}
use Rattle.tree_steps.specs.Owing.{IsPath}
use Rattle.search_free.proofs.Options.{var_same}

-- an element with what stands before and behind it
record Split {X : Type 0} (xs : List X) (x : X) : Type 0 where
  pub before : List X
  pub rest : List X
  pub is : xs ≡ before ++ x ∷ rest

split_at : {X : Type 0} (xs : List X) (x : X) → Has xs x → Split xs x
split_at [] x has = absurd has
split_at (y ∷ xs) x (inl same) = record { before = []; rest = xs; is = ap (λ z. z ∷ xs) (sym same) }
split_at (y ∷ xs) x (inr later) = let s = split_at xs x later in record { before = y ∷ s.before; rest = s.rest; is = ap (λ zs. y ∷ zs) s.is }

pub grown : (g : Graph) (t : Task) (made : List Decision) (v : Var) (d : Decision) → IsPath g t made → IsLiveVar g t made v → IsUndecided made v → Has (options g t made v) d → IsPath g t (d ∷ made)
grown g t made v d path live none has =
    let same : var_of d ≡ v = var_same g t made v d has in
    let s = split_at (options g t made v) d has in (
      map (λ o. o ∷ made) s.rest ++ path.0,
      (
        path.0,
        record {
          live = subst (λ x. IsLiveVar g t made x) (sym same) live;
          undecided = subst (λ x. IsUndecided made x) (sym same) none;
          before = s.before;
          rest = s.rest;
          options = ap (λ x. options g t made x) same ∙ s.is;
          is = refl;
        },
        path.1,
      ),
    )
