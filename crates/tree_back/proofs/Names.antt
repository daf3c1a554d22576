-- The names of a task's atoms have no white space.
use Rattle.std.proofs.Common.{◌≡◌, ℕ, List, [], Option, Some, None, slice_get, refl, sym, subst, ◌∙◌}
use Rattle.std.specs.List.{AllPass}
use Rattle.std.specs.Option.{option_map, option_map_or, unwrap_or}
use Rattle.std.proofs.lemmas.Option.{slice_get-map}
use Rattle.vtr_base.specs.Spans.{is_word_byte}
use Rattle.list_laws.proofs.Places.{element}
use Rattle.net_types.specs.declared.atom.Atom.{Atom}
use Rattle.net_types.specs.declared.parts.NetlistParts.{NetlistParts}
use Rattle.net_types.specs.WellFormed.{IsNetlist}
use Rattle.task_types.specs.declared.task.Task.{Task}
use Rattle.tree_lines.specs.Nodes.{task_names}
use Rattle.tree_text.specs.Text.{HasAtoms}
use Rattle.tree_back.proofs.AtomNames.{atom_dark}

pub task_dark : (n : NetlistParts) → IsNetlist n → (t : Task) → HasAtoms n.atoms t → (k : ℕ) (name : List ℕ) → slice_get (task_names n.atoms t) k ≡ Some name → AllPass is_word_byte name
task_dark n is t has k name at =
    by (slice_get t.atoms k) refl (sym (slice_get-map (λ (m : ℕ). option_map_or (λ (a : Atom). a.name) (slice_get n.atoms m) []) t.atoms k) ∙ at)
  where
    by : (o : Option ℕ) → slice_get t.atoms k ≡ o → option_map (λ (m : ℕ). option_map_or (λ (a : Atom). a.name) (slice_get n.atoms m) []) o ≡ Some name → AllPass is_word_byte name
    by None e none = absurd (cc)
    by (Some m) e some =
        let x = element n.atoms m (has.there k m e) in
        let named = rw x.1 at some in
        subst (λ (o : Option (List ℕ)). AllPass is_word_byte (unwrap_or o [])) named (atom_dark n is m x.0 x.1)
