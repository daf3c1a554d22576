-- One variable more in a tally.
use Rattle.std.proofs.Common.{◌≡◌, ◌≤◌, ◌+◌, ℕ, true, List, [], ◌∷◌, ◌++◌, Some, length, sym, ap, ◌∙◌, subst, if◌then◌else◌}
use Rattle.std.specs.Prelude.{slice_get}
use Rattle.arch_types.specs.declared.block.AtomKind.{AtomKind}
use Rattle.pb_expand.specs.declared.number.PbIx.{PbIx}
use Rattle.pb_expand.specs.declared.number.PinAt.{PinAt}
use Rattle.pb_expand.specs.declared.number.Edge.{Edge}
use Rattle.pb_expand.specs.declared.number.PbKind.TheVariants.{Leaf, Modes}
use Rattle.pb_expand.specs.Graph.{Graph, into_from, pin_ix}
use Rattle.prog_map.specs.Leaves.{kind_at}
use Rattle.prog_map.specs.Order.{count_of, is_first}
use Rattle.task_types.specs.declared.task.Task.{Task}
use Rattle.task_types.specs.declared.tree.Var.{Var}
use Rattle.task_types.specs.declared.tree.Var.TheVariants as var
use Rattle.task_room.specs.Room.{choices_of}
use Rattle.task_room.specs.Listed.{IsTallyOf, var_at, edge_var, entry_var, is_entry}
use Rattle.task_room.specs.declared.tally.Tally.{Tally}
use Rattle.task_room.proofs.Counts.{mode_choices, leaf_some, edge_choices, entry_choices}

module _ (g : Graph) (t : Task) (old new : Tally) where
  -- a variable with so many options may be added
  abbrev pub Adds : ℕ → Type 0
  Adds options = (v : Var) (vars : List Var) → IsTallyOf g t old vars → choices_of g t v ≡ options → IsTallyOf g t new (v ∷ vars)

  -- and one with some option
  abbrev pub AddsSome : Type 0
  AddsSome = (v : Var) (vars : List Var) → IsTallyOf g t old vars → 1 ≤ choices_of g t v → IsTallyOf g t new (v ∷ vars)

  pub mode_more : (pb : PbIx) (count : ℕ) → kind_at g pb.0 ≡ Some (Modes count) → Adds count → (vars : List Var) → IsTallyOf g t old vars → IsTallyOf g t new (var_at pb.0 (kind_at g pb.0) ++ vars)
  mode_more pb count is adds vars told =
      subst (λ o. IsTallyOf g t new (var_at pb.0 o ++ vars)) (sym is) (adds (var.Mode pb) vars told (mode_choices g t pb ∙ ap count_of is))

  pub leaf_more : (pb : PbIx) (atom : AtomKind) (options : ℕ) → kind_at g pb.0 ≡ Some (Leaf atom) → Adds options → choices_of g t (var.Occupant pb) ≡ options →
      (vars : List Var) → IsTallyOf g t old vars → IsTallyOf g t new (var_at pb.0 (kind_at g pb.0) ++ vars)
  leaf_more pb atom options is adds same vars told = subst (λ o. IsTallyOf g t new (var_at pb.0 o ++ vars)) (sym is) (adds (var.Occupant pb) vars told same)

  pub leaf_past : (pb : PbIx) (atom : AtomKind) → kind_at g pb.0 ≡ Some (Leaf atom) → AddsSome → (vars : List Var) → IsTallyOf g t old vars → IsTallyOf g t new (var_at pb.0 (kind_at g pb.0) ++ vars)
  leaf_past pb atom is adds vars told = subst (λ o. IsTallyOf g t new (var_at pb.0 o ++ vars)) (sym is) (adds (var.Occupant pb) vars told (leaf_some g t pb))

  pub edge_more : (n : ℕ) (edge : Edge) (options : ℕ) → slice_get g.edges n ≡ Some edge → is_first g n edge ≡ true → Adds options → options ≡ 1 + length (into_from 0 g.edges edge.dst.0 edge.mode) →
      (vars : List Var) → IsTallyOf g t old vars → IsTallyOf g t new (edge_var g n (slice_get g.edges n) ++ vars)
  edge_more n edge options is first adds same vars told =
      subst (λ o. IsTallyOf g t new (edge_var g n o ++ vars)) (sym is)
      (subst (λ b. IsTallyOf g t new ((if b then var.Edge edge.dst edge.mode ∷ [] else []) ++ vars)) (sym first)
      (adds (var.Edge edge.dst edge.mode) vars told (edge_choices g t edge.dst edge.mode ∙ sym same)))

  pub entry_more : (n : ℕ) (pin : PinAt) (options : ℕ) → slice_get g.pins n ≡ Some pin → is_entry g pin ≡ true → Adds options → options ≡ 1 + length t.nets →
      (vars : List Var) → IsTallyOf g t old vars → IsTallyOf g t new (entry_var g n (slice_get g.pins n) ++ vars)
  entry_more n pin options is entry adds same vars told =
      subst (λ o. IsTallyOf g t new (entry_var g n o ++ vars)) (sym is)
      (subst (λ b. IsTallyOf g t new ((if b then var.Entry (pin_ix n) ∷ [] else []) ++ vars)) (sym entry)
      (adds (var.Entry (pin_ix n)) vars told (entry_choices g t (pin_ix n) ∙ sym same)))
