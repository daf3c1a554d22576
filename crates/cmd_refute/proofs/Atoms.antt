-- The atoms of a valid task.
use Rattle.std.proofs.Common.{◌≡◌, ℕ, List, Some}
use Rattle.list_laws.proofs.Onces.{once_at}
use Rattle.list_laws.proofs.Members.{has_at}
use Rattle.net_types.specs.declared.atom.Atom.{Atom}
use Rattle.pb_expand.specs.Graph.{Graph}
use Rattle.task_types.specs.declared.task.Task.{Task}
use Rattle.task_rules.specs.Valid.{IsValid}
use Rattle.tree_text.specs.Text.{HasAtoms}

pub has_atoms : (g : Graph) (known : List Atom) (t : Task) → IsValid g known t → HasAtoms known t
has_atoms g known t valid = record {
  few = valid.few;
  once = once_at t.atoms valid.once;
  there = λ k n at. valid.there n (has_at t.atoms k n at);
}
