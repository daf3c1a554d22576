-- Trails whose latest decision is taken back.
use Rattle.std.proofs.Common.{◌≡◌, List, ◌∷◌, subst}
use Rattle.pb_expand.specs.Graph.{Graph}
use Rattle.task_types.specs.declared.task.Task.{Task}
use Rattle.task_types.specs.declared.decision.Decision.{Decision}
use Rattle.task_trail.specs.Decided.{Decided, decided_on}
use Rattle.tree_steps.specs.Owing.{IsPath}
use Rattle.first_try.specs.Paths.{IsOnPath}

pub path_tail : (g : Graph) (t : Task) (d : Decision) (made : List Decision) → IsPath g t (d ∷ made) → IsPath g t made
path_tail g t d made path = (path.1.0, path.1.2)

pub taken_back : (g : Graph) (t : Task) (d : Decision) (old new : Decided) → old ≡ decided_on (d ∷ new.made) new.instances new.pins new.atoms → IsOnPath g t old → IsOnPath g t new
taken_back g t d old new is on =
    let there : IsOnPath g t (decided_on (d ∷ new.made) new.instances new.pins new.atoms) = subst (λ (trail : Decided). IsOnPath g t trail) is on in
    record { instances = there.instances; pins = there.pins; atoms = there.atoms; path = path_tail g t d new.made there.path }
