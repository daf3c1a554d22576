-- The marks of a trail with one decision more.
use Rattle.std.proofs.Common.{◌≡◌, ◌<◌, ◌==◌, ◌&&◌, ◌||◌, inl, inr, ℕ, Bool, true, false, List, [], ◌∷◌, ◌++◌, Option, Some, None, length, get_or, refl, sym, ap, ◌∙◌, subst, if◌then◌else◌}
use Rattle.std.specs.Prelude.{reverse}
use Rattle.std.proofs.Math.ListN.{set, length-set}
use Rattle.std.proofs.lemmas.List.{get_or-set_same, get_or-set_other, reverse-append}
use Rattle.std.proofs.lemmas.Bool.Decides.{eqb_tells}
use Rattle.pb_expand.specs.declared.number.PbIx.{PbIx}
use Rattle.pb_expand.specs.declared.number.PinIx.{PinIx}
use Rattle.task_types.specs.declared.decision.Decision.{Decision}
use Rattle.task_types.specs.declared.decision.Decision.TheVariants as decision
use Rattle.task_types.specs.declared.decision.Occupant.{Occupant}
use Rattle.task_types.specs.declared.decision.Occupant.TheVariants.{Atom}
use Rattle.task_types.specs.Decisions.{occupant_in, edge_in, is_placed}
use Rattle.task_trail.specs.declared.trail.Pick.{Pick}
use Rattle.task_trail.specs.Decided.{decided_on, IsFree, taken_in}
use Rattle.task_trail.specs.Tied.{AreFree, AreMarked}

-- an array and a look-up by number, where one number more is looked up
put : {X : Type 0} (xs : List (Option X)) (look : ℕ → Option X) (i : ℕ) (x : Option X) → ((k : ℕ) → get_or xs k None ≡ look k) → i < length xs →
    (k : ℕ) → get_or (set xs i x) k None ≡ (if i == k then x else look k)
put xs look i x are inside k = elim (eqb_tells i k) [
  | inl same ↦ rw same.0 (ap (λ j. get_or (set xs i x) j None) (sym same.1) ∙ get_or-set_same xs i x None inside)
  | inr apart ↦ rw apart.0 (get_or-set_other xs i k x None (λ e. apart.1 (sym e)) ∙ are k)
]

-- the same for truth values
put_true : (xs : List Bool) (look : ℕ → Bool) (i : ℕ) → ((k : ℕ) → get_or xs k false ≡ look k) → i < length xs → (k : ℕ) → get_or (set xs i true) k false ≡ ((i == k) || look k)
put_true xs look i are inside k = elim (eqb_tells i k) [
  | inl same ↦ rw same.0 (ap (λ j. get_or (set xs i true) j false) (sym same.1) ∙ get_or-set_same xs i true false inside)
  | inr apart ↦ rw apart.0 (get_or-set_other xs i k true false (λ e. apart.1 (sym e)) ∙ are k)
]

module _ (made : List Decision) (modes : List (Option ℕ)) (occupants : List (Option Occupant)) (picks : List (Option Pick)) (entries : List (Option (Option ℕ))) (placed : List Bool) where
  set_atom : (leaf : PbIx) (atom : ℕ) → AreMarked made modes occupants picks entries placed →
      IsFree (decided_on made (length modes) (length picks) (length placed)) (decision.Occupant leaf (Atom atom)) →
      AreMarked (decision.Occupant leaf (Atom atom) ∷ made) modes (set occupants leaf.0 (Some (Atom atom))) picks entries (set placed atom true)
  set_atom leaf atom marks free = record {
    modes_are = marks.modes_are;
    occupants_are = put occupants (occupant_in made) leaf.0 (Some (Atom atom)) marks.occupants_are (subst (λ n. leaf.0 < n) (sym marks.occupants_long) free.0);
    picks_are = marks.picks_are;
    entries_are = marks.entries_are;
    placed_are = put_true placed (is_placed made) atom marks.placed_are free.2.0;
    occupants_long = length-set occupants leaf.0 (Some (Atom atom)) ∙ marks.occupants_long;
    entries_long = marks.entries_long;
    free = subst (λ n. AreFree (length modes) (length picks) n (decision.Occupant leaf (Atom atom) ∷ made)) (sym (length-set placed atom true)) (free, marks.free);
  }

  pick_put : (pin m : ℕ) (pick : Pick) → pick.mode ≡ m → ((p mode : ℕ) → taken_in (get_or picks p None) mode ≡ edge_in made p mode) → ((mode : ℕ) → edge_in made pin mode ≡ None) → pin < length picks →
      (p mode : ℕ) → taken_in (get_or (set picks pin (Some pick)) p None) mode ≡ (if (pin == p) && (m == mode) then Some pick.edge else edge_in made p mode)
  pick_put pin m pick is are none inside p mode = elim (eqb_tells pin p) [
    | inl same ↦ rw same.0 (
        ap (λ j. taken_in (get_or (set picks pin (Some pick)) j None) mode) (sym same.1)
        ∙ ap (λ x. taken_in x mode) (get_or-set_same picks pin (Some pick) None inside)
        ∙ ap (λ k. if k == mode then Some pick.edge else None) is
        ∙ ap (λ x. if m == mode then Some pick.edge else x) (sym (none mode) ∙ ap (λ j. edge_in made j mode) same.1))
    | inr apart ↦ rw apart.0 (ap (λ x. taken_in x mode) (get_or-set_other picks pin p (Some pick) None (λ q. apart.1 (sym q))) ∙ are p mode)
  ]

  set_pick : (pin : PinIx) (pick : Pick) → AreMarked made modes occupants picks entries placed →
      IsFree (decided_on made (length modes) (length picks) (length placed)) (decision.Edge pin pick.mode pick.edge) →
      AreMarked (decision.Edge pin pick.mode pick.edge ∷ made) modes occupants (set picks pin.0 (Some pick)) entries placed
  set_pick pin pick marks free = record {
    modes_are = marks.modes_are;
    occupants_are = marks.occupants_are;
    picks_are = pick_put pin.0 pick.mode pick refl marks.picks_are free.1 free.0;
    entries_are = marks.entries_are;
    placed_are = marks.placed_are;
    occupants_long = marks.occupants_long;
    entries_long = marks.entries_long ∙ sym (length-set picks pin.0 (Some pick));
    free = subst (λ n. AreFree (length modes) n (length placed) (decision.Edge pin pick.mode pick.edge ∷ made)) (sym (length-set picks pin.0 (Some pick))) (free, marks.free);
  }

-- the latest decision stands last in the array

pub made_more : (old new : List Decision) (d : Decision) → new ≡ old ++ d ∷ [] → reverse new ≡ d ∷ reverse old
made_more old new d is = ap reverse is ∙ reverse-append old (d ∷ [])

module _ (old new : List Decision) (modes : List (Option ℕ)) (occupants : List (Option Occupant)) (picks : List (Option Pick)) (entries : List (Option (Option ℕ))) (placed : List Bool) (d : Decision)
    (is : new ≡ old ++ d ∷ []) where
  pub after_atom : (leaf : PbIx) (o : Occupant) (atom : ℕ) → d ≡ decision.Occupant leaf o → o ≡ Atom atom → AreMarked (reverse old) modes occupants picks entries placed →
      IsFree (decided_on (reverse old) (length modes) (length picks) (length placed)) d →
      AreMarked (reverse new) modes (set occupants leaf.0 (Some o)) picks entries (set placed atom true)
  after_atom leaf o atom of host marks free =
      let whole : d ≡ decision.Occupant leaf (Atom atom) = of ∙ ap (λ x. decision.Occupant leaf x) host in
      subst (λ x. AreMarked (reverse new) modes (set occupants leaf.0 (Some x)) picks entries (set placed atom true)) (sym host)
      (subst (λ m. AreMarked m modes (set occupants leaf.0 (Some (Atom atom))) picks entries (set placed atom true)) (sym (made_more old new d is ∙ ap (λ x. x ∷ reverse old) whole))
      (set_atom (reverse old) modes occupants picks entries placed leaf atom marks (subst (IsFree (decided_on (reverse old) (length modes) (length picks) (length placed))) whole free)))

  pub after_pick : (pin : PinIx) (pick : Pick) → d ≡ decision.Edge pin pick.mode pick.edge → AreMarked (reverse old) modes occupants picks entries placed →
      IsFree (decided_on (reverse old) (length modes) (length picks) (length placed)) d →
      AreMarked (reverse new) modes occupants (set picks pin.0 (Some pick)) entries placed
  after_pick pin pick of marks free =
      subst (λ m. AreMarked m modes occupants (set picks pin.0 (Some pick)) entries placed) (sym (made_more old new d is ∙ ap (λ x. x ∷ reverse old) of))
      (set_pick (reverse old) modes occupants picks entries placed pin pick marks (subst (IsFree (decided_on (reverse old) (length modes) (length picks) (length placed))) of free))
