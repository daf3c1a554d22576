-- The names of a task's atoms differ.
use Rattle.std.proofs.Common.{◌≡◌, ℕ, List, [], Option, Some, None, map, slice_get, refl, sym, ap, ◌∙◌}
use Rattle.std.specs.Option.{option_map, option_map_or}
use Rattle.std.proofs.lemmas.Option.{slice_get-map}
use Rattle.list_laws.specs.Orders.{Once, StandOnce}
use Rattle.list_laws.proofs.Onces.{once_at}
use Rattle.list_laws.proofs.Places.{element}
use Rattle.net_types.specs.declared.atom.Atom.{Atom}
use Rattle.task_types.specs.declared.task.Task.{Task}
use Rattle.tree_lines.specs.Nodes.{task_names}
use Rattle.tree_text.specs.Text.{HasAtoms}

abbrev name_of : List Atom → ℕ → List ℕ
name_of atoms number = option_map_or (λ (a : Atom). a.name) (slice_get atoms number) []

-- the atom behind a place of the task, and its name
record Named (atoms : List Atom) (t : Task) (place : ℕ) (name : List ℕ) : Type 0 where
  pub number : ℕ
  pub listed : slice_get t.atoms place ≡ Some number
  pub is : slice_get (map (λ (a : Atom). a.name) atoms) number ≡ Some name

named : (atoms : List Atom) (t : Task) → HasAtoms atoms t → (place : ℕ) (name : List ℕ) → slice_get (task_names atoms t) place ≡ Some name → Named atoms t place name
named atoms t has place name at = by (slice_get t.atoms place) refl (sym (slice_get-map (name_of atoms) t.atoms place) ∙ at)
  where
    by : (o : Option ℕ) → slice_get t.atoms place ≡ o → option_map (name_of atoms) o ≡ Some name → Named atoms t place name
    by None e is = absurd (cc)
    by (Some n) e is =
        let x = element atoms n (has.there place n e) in
        let text : name_of atoms n ≡ x.0.name = ap (λ o. option_map_or (λ (a : Atom). a.name) o []) x.1 in
        record {
          number = n;
          listed = e;
          is = slice_get-map (λ (a : Atom). a.name) atoms n ∙ ap (option_map (λ (a : Atom). a.name)) x.1 ∙ ap Some (sym text ∙ one is);
        }
      where
        one : {x y : List ℕ} → Some x ≡ Some y → x ≡ y
        one e = cc

pub names_once : (atoms : List Atom) (t : Task) → HasAtoms atoms t → Once (map (λ (a : Atom). a.name) atoms) → StandOnce (task_names atoms t)
names_once atoms t has once i j name at_i at_j =
    let a = named atoms t has i name at_i in
    let b = named atoms t has j name at_j in
    let same : a.number ≡ b.number = once_at (map (λ (x : Atom). x.name) atoms) once a.number b.number name a.is b.is in
    has.once i j b.number (a.listed ∙ ap (λ (n : ℕ). Some n) same) b.listed
