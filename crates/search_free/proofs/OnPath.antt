-- What was decided on a path was an option of a variable that was live then, and still is.
use Rattle.std.proofs.Common.{◌≡◌, ◌==◌, ◌&&◌, inl, inr, ℕ, Bool, true, false, List, [], ◌∷◌, Option, Some, None, IsSome, map, length, refl, sym, ap, ◌∙◌, subst, arith}
use Rattle.std.specs.Prelude.{◌||◌, filter, not}
use Rattle.std.proofs.lemmas.Bool.Decides.{eqb_tells}
use Rattle.vtr_base.specs.Lists.{Has, up_from}
use Rattle.list_laws.proofs.Members.{has_right, has_either, from_map, from_filter, up_has}
use Rattle.pb_expand.specs.declared.number.EdgeIx.{EdgeIx}
use Rattle.pb_expand.specs.declared.number.PbIx.{PbIx}
use Rattle.pb_expand.specs.Graph.{Graph, into_from}
use Rattle.pb_expand.specs.Ends.{ListsEnds}
use Rattle.prog_map.specs.Leaves.{kind_at}
use Rattle.prog_map.specs.Live.{IsLiveAt, IsLivePin}
use Rattle.prog_map.specs.Order.{count_of}
use Rattle.task_types.specs.declared.task.Task.{Task}
use Rattle.task_types.specs.declared.decision.Decision.{Decision}
use Rattle.task_types.specs.declared.decision.Decision.TheVariants as decision
use Rattle.task_types.specs.declared.decision.Occupant.{Occupant}
use Rattle.task_types.specs.declared.decision.Occupant.TheVariants.{Nobody, Atom, Wire}
use Rattle.task_types.specs.Decisions.{mode_in, occupant_in, edge_in, entry_in, is_host, is_placed}
use Rattle.task_types.specs.Ends.{IsRootInput}
use Rattle.task_types.specs.Options.{options, occupants, may_hold, wires_at, IsUndecided}
use Rattle.task_types.specs.Realises.{can_hold}
use Rattle.task_options.specs.Choosing.{var_of}
use Rattle.task_reach.specs.Valid.{EntersAtRoot}
use Rattle.tree_steps.specs.Owing.{Owes, IsOwed}
use Rattle.search_free.specs.Held.{FitsLeaf, FitsPin, FitsEntry, IsModeHeld, IsLeafHeld, IsPinHeld, IsEntryHeld, AreHeld}

none_some : {X : Type 0} {x : X} → None ≡ Some x → ⊥
none_some e = cc

some_injective : {X : Type 0} {x y : X} → Some x ≡ Some y → x ≡ y
some_injective e = cc

and_left : (a b : Bool) → (a && b) ≡ true → a ≡ true
and_left true b e = refl
and_left false b e = cc

and_not : (a b : Bool) → (a && not b) ≡ true → b ≡ false
and_not true false e = refl
and_not true true e = cc
and_not false b e = cc

itself : (k : ℕ) → (k == k) ≡ true
itself k = elim (eqb_tells k k) [ inl same ↦ same.0 | inr apart ↦ absurd (apart.1 refl) ]

or_true : (b : Bool) → (b || true) ≡ true
or_true true = refl
or_true false = refl

placed_by : (made : List Decision) (leaf place : ℕ) → occupant_in made leaf ≡ Some (Atom place) → is_placed made place ≡ true
placed_by [] leaf place is = absurd (none_some is)
placed_by (decision.Occupant l o ∷ made) leaf place is = elim (eqb_tells l.0 leaf) [
  | inl same ↦ (
      let here : o ≡ Atom place = some_injective (rw same.0 at is) in
      ap (λ x. is_host x place || is_placed made place) here ∙ ap (λ b. b || is_placed made place) (itself place))
  | inr apart ↦ ap (λ b. is_host o place || b) (placed_by made leaf place (rw apart.0 at is)) ∙ or_true (is_host o place)
]
placed_by (decision.Mode p k ∷ made) leaf place is = placed_by made leaf place is
placed_by (decision.Edge p k e ∷ made) leaf place is = placed_by made leaf place is
placed_by (decision.Entry p o ∷ made) leaf place is = placed_by made leaf place is

-- a decision leaves what was decided

kept_mode : (d : Decision) (made : List Decision) (pb k : ℕ) → IsUndecided made (var_of d) → mode_in made pb ≡ Some k → mode_in (d ∷ made) pb ≡ Some k
kept_mode (decision.Mode p m) made pb k none is = elim (eqb_tells p.0 pb) [
  | inl same ↦ absurd (none_some (sym none ∙ ap (λ x. mode_in made x) same.1 ∙ is))
  | inr apart ↦ rw apart.0 is
]
kept_mode (decision.Occupant l w) made pb k none is = is
kept_mode (decision.Edge p m e) made pb k none is = is
kept_mode (decision.Entry p w) made pb k none is = is

module _ (g : Graph) where
  kept_live : (d : Decision) (made : List Decision) (pb : ℕ) → IsUndecided made (var_of d) → IsLiveAt g (mode_in made) pb → IsLiveAt g (mode_in (d ∷ made)) pb
  kept_live d made pb none live = record { inside = live.inside; each = λ above mode st. kept_mode d made above mode none (live.each above mode st) }

  kept_pin : (d : Decision) (made : List Decision) (pin mode : ℕ) → IsUndecided made (var_of d) → IsLivePin g (mode_in made) pin mode → IsLivePin g (mode_in (d ∷ made)) pin mode
  kept_pin d made pin mode none pin_live = record {
    number = pin_live.number;
    into = pin_live.into;
    live = kept_live d made pin_live.into.edge.owner.0 none pin_live.live;
    chosen = kept_mode d made pin_live.into.edge.owner.0 mode none pin_live.chosen;
  }

module _ (g : Graph) (t : Task) where
  -- the decision was an option
  chosen : (made : List Decision) (d : Decision) (todo below : List (List Decision)) → IsOwed g t made d todo below → Has (options g t made (var_of d)) d
  chosen made d todo below owed = subst (λ os. Has os d) (sym owed.options) (has_right owed.before (d ∷ owed.rest) d (inl refl))

  -- what was decided of modes

  more_mode : (d : Decision) (made : List Decision) (pb mode : ℕ) → IsUndecided made (var_of d) → IsModeHeld g made pb mode → IsModeHeld g (d ∷ made) pb mode
  more_mode d made pb mode none on = record { modes = on.modes; counted = on.counted; live = kept_live g d made pb none on.live }

  pub mode_on : (made : List Decision) (todo : List (List Decision)) (pb mode : ℕ) → Owes g t made todo → mode_in made pb ≡ Some mode → IsModeHeld g made pb mode
  mode_on [] todo pb mode owes is = absurd (none_some is)
  mode_on (decision.Mode p k ∷ made) todo pb mode owes is = elim (eqb_tells p.0 pb) [
    | inl same ↦ (
        let here : k ≡ mode = some_injective (rw same.0 at is) in
        let from = from_map (λ j. decision.Mode p j) (up_from 0 (count_of (kind_at g p.0))) (decision.Mode p k) (chosen made (decision.Mode p k) todo owes.0 owes.1) in
        let item : k ≡ from.item = cc from.is in
        let now : IsModeHeld g (decision.Mode p k ∷ made) p.0 k = record {
          counted = omega (arith, (up_has 0 (count_of (kind_at g p.0)) from.item from.has).1, item);
          modes = owes.1.live.0;
          live = kept_live g (decision.Mode p k) made p.0 owes.1.undecided owes.1.live.1;
        } in
        subst (λ x. IsModeHeld g (decision.Mode p k ∷ made) x mode) same.1 (subst (λ x. IsModeHeld g (decision.Mode p k ∷ made) p.0 x) here now))
    | inr apart ↦ more_mode (decision.Mode p k) made pb mode owes.1.undecided (mode_on made owes.0 pb mode owes.2 (rw apart.0 at is))
  ]
  mode_on (decision.Occupant l w ∷ made) todo pb mode owes is = more_mode (decision.Occupant l w) made pb mode owes.1.undecided (mode_on made owes.0 pb mode owes.2 is)
  mode_on (decision.Edge p k e ∷ made) todo pb mode owes is = more_mode (decision.Edge p k e) made pb mode owes.1.undecided (mode_on made owes.0 pb mode owes.2 is)
  mode_on (decision.Entry p w ∷ made) todo pb mode owes is = more_mode (decision.Entry p w) made pb mode owes.1.undecided (mode_on made owes.0 pb mode owes.2 is)

  -- what was decided of leaves

  more_leaf : (d : Decision) (made : List Decision) (leaf : ℕ) (w : Occupant) → IsUndecided made (var_of d) → IsLeafHeld g t made leaf w → IsLeafHeld g t (d ∷ made) leaf w
  more_leaf d made leaf w none on = record { is_leaf = on.is_leaf; live = kept_live g d made leaf none on.live; fits = on.fits }

  fits_option : (made : List Decision) (leaf : ℕ) (w : Occupant) → Has (occupants g t made leaf) w → FitsLeaf g t leaf w
  fits_option made leaf Nobody has = tt
  fits_option made leaf (Atom place) (inl is) = absurd (let bad : ⊥ = cc is in bad)
  fits_option made leaf (Wire input) (inl is) = absurd (let bad : ⊥ = cc is in bad)
  fits_option made leaf (Atom place) (inr has) = elim (has_either (map (λ place. Atom place) (filter (may_hold t made leaf) (up_from 0 (length t.atoms)))) (map (λ input. Wire input) (up_from 0 (wires_at g leaf))) (Atom place) has) [
    | inl held ↦ (
        let from = from_map (λ place. Atom place) (filter (may_hold t made leaf) (up_from 0 (length t.atoms))) (Atom place) held in
        let same : from.item ≡ place = cc from.is in
        let may = (from_filter (may_hold t made leaf) (up_from 0 (length t.atoms)) from.item from.has).1 in
        let inside = (up_has 0 (length t.atoms) from.item (from_filter (may_hold t made leaf) (up_from 0 (length t.atoms)) from.item from.has).0).1 in
        (omega (arith, inside, same), subst (λ x. can_hold t x leaf ≡ true) same (and_left (can_hold t from.item leaf) _ may)))
    | inr wire ↦ (let from = from_map (λ input. Wire input) (up_from 0 (wires_at g leaf)) (Atom place) wire in let bad : ⊥ = cc from.is in absurd bad)
  ]
  fits_option made leaf (Wire input) (inr has) = elim (has_either (map (λ place. Atom place) (filter (may_hold t made leaf) (up_from 0 (length t.atoms)))) (map (λ input. Wire input) (up_from 0 (wires_at g leaf))) (Wire input) has) [
    | inl held ↦ (let from = from_map (λ place. Atom place) (filter (may_hold t made leaf) (up_from 0 (length t.atoms))) (Wire input) held in let bad : ⊥ = cc from.is in absurd bad)
    | inr wire ↦ (
        let from = from_map (λ input. Wire input) (up_from 0 (wires_at g leaf)) (Wire input) wire in
        let same : from.item ≡ input = cc from.is in
        omega (arith, (up_has 0 (wires_at g leaf) from.item from.has).1, same))
  ]

  pub leaf_on : (made : List Decision) (todo : List (List Decision)) (leaf : ℕ) (w : Occupant) → Owes g t made todo → occupant_in made leaf ≡ Some w → IsLeafHeld g t made leaf w
  leaf_on [] todo leaf w owes is = absurd (none_some is)
  leaf_on (decision.Occupant l o ∷ made) todo leaf w owes is = elim (eqb_tells l.0 leaf) [
    | inl same ↦ (
        let here : o ≡ w = some_injective (rw same.0 at is) in
        let from = from_map (λ x. decision.Occupant l x) (occupants g t made l.0) (decision.Occupant l o) (chosen made (decision.Occupant l o) todo owes.0 owes.1) in
        let item : from.item ≡ o = cc from.is in
        let now : IsLeafHeld g t (decision.Occupant l o ∷ made) l.0 o = record {
          is_leaf = owes.1.live.0;
          live = kept_live g (decision.Occupant l o) made l.0 owes.1.undecided owes.1.live.1;
          fits = subst (λ x. FitsLeaf g t l.0 x) item (fits_option made l.0 from.item from.has);
        } in
        subst (λ x. IsLeafHeld g t (decision.Occupant l o ∷ made) x w) same.1 (subst (λ x. IsLeafHeld g t (decision.Occupant l o ∷ made) l.0 x) here now))
    | inr apart ↦ more_leaf (decision.Occupant l o) made leaf w owes.1.undecided (leaf_on made owes.0 leaf w owes.2 (rw apart.0 at is))
  ]
  leaf_on (decision.Mode p k ∷ made) todo leaf w owes is = more_leaf (decision.Mode p k) made leaf w owes.1.undecided (leaf_on made owes.0 leaf w owes.2 is)
  leaf_on (decision.Edge p k e ∷ made) todo leaf w owes is = more_leaf (decision.Edge p k e) made leaf w owes.1.undecided (leaf_on made owes.0 leaf w owes.2 is)
  leaf_on (decision.Entry p o ∷ made) todo leaf w owes is = more_leaf (decision.Entry p o) made leaf w owes.1.undecided (leaf_on made owes.0 leaf w owes.2 is)

  -- what was decided of pins

  more_pin : (d : Decision) (made : List Decision) (pin mode : ℕ) (edge : Option EdgeIx) → IsUndecided made (var_of d) → IsPinHeld g made pin mode edge → IsPinHeld g (d ∷ made) pin mode edge
  more_pin d made pin mode edge none on = record { live = kept_pin g d made pin mode none on.live; fits = on.fits }

  fits_pin : ListsEnds g → (pin mode : ℕ) (edge : Option EdgeIx) → Has (None ∷ map (λ (x : EdgeIx). Some x) (into_from 0 g.edges pin mode)) edge → FitsPin g pin mode edge
  fits_pin lists pin mode None has = tt
  fits_pin lists pin mode (Some edge) (inl is) = absurd (let bad : ⊥ = cc is in bad)
  fits_pin lists pin mode (Some edge) (inr has) =
      let from = from_map (λ (x : EdgeIx). Some x) (into_from 0 g.edges pin mode) (Some edge) has in
      let same : from.item ≡ edge = cc from.is in
      let into = ((lists pin mode).exact edge.0).0 (subst (λ x. Has (into_from 0 g.edges pin mode) x) same from.has) in
      record { edge = into.0; there = into.1; ends = into.2.0; in_mode = into.2.1 }

  pub pin_on : ListsEnds g → (made : List Decision) (todo : List (List Decision)) (pin mode : ℕ) (edge : Option EdgeIx) → Owes g t made todo → edge_in made pin mode ≡ Some edge → IsPinHeld g made pin mode edge
  pin_on lists [] todo pin mode edge owes is = absurd (none_some is)
  pin_on lists (decision.Edge q k o ∷ made) todo pin mode edge owes is = elim (eqb_tells q.0 pin) [
    | inl pins ↦ elim (eqb_tells k mode) [
      | inl modes ↦ (
          let here : o ≡ edge = some_injective (rw (pins.0, modes.0) at is) in
          let from = from_map (λ (e : Option EdgeIx). decision.Edge q k e) (None ∷ map (λ (e : EdgeIx). Some e) (into_from 0 g.edges q.0 k)) (decision.Edge q k o) (chosen made (decision.Edge q k o) todo owes.0 owes.1) in
          let item : from.item ≡ o = cc from.is in
          let now : IsPinHeld g (decision.Edge q k o ∷ made) q.0 k o = record {
            live = kept_pin g (decision.Edge q k o) made q.0 k owes.1.undecided owes.1.live;
            fits = subst (λ x. FitsPin g q.0 k x) item (fits_pin lists q.0 k from.item from.has);
          } in
          subst (λ x. IsPinHeld g (decision.Edge q k o ∷ made) x mode edge) pins.1 (subst (λ x. IsPinHeld g (decision.Edge q k o ∷ made) q.0 x edge) modes.1 (subst (λ x. IsPinHeld g (decision.Edge q k o ∷ made) q.0 k x) here now)))
      | inr apart ↦ more_pin (decision.Edge q k o) made pin mode edge owes.1.undecided (pin_on lists made owes.0 pin mode edge owes.2 (rw (pins.0, apart.0) at is))
    ]
    | inr apart ↦ more_pin (decision.Edge q k o) made pin mode edge owes.1.undecided (pin_on lists made owes.0 pin mode edge owes.2 (rw apart.0 at is))
  ]
  pin_on lists (decision.Mode p k ∷ made) todo pin mode edge owes is = more_pin (decision.Mode p k) made pin mode edge owes.1.undecided (pin_on lists made owes.0 pin mode edge owes.2 is)
  pin_on lists (decision.Occupant l o ∷ made) todo pin mode edge owes is = more_pin (decision.Occupant l o) made pin mode edge owes.1.undecided (pin_on lists made owes.0 pin mode edge owes.2 is)
  pin_on lists (decision.Entry p o ∷ made) todo pin mode edge owes is = more_pin (decision.Entry p o) made pin mode edge owes.1.undecided (pin_on lists made owes.0 pin mode edge owes.2 is)

  -- what was decided of entries

  fits_entry : (net : Option ℕ) → Has (None ∷ map (λ (x : ℕ). Some x) (up_from 0 (length t.nets))) net → FitsEntry t net
  fits_entry None has = tt
  fits_entry (Some net) (inl is) = absurd (let bad : ⊥ = cc is in bad)
  fits_entry (Some net) (inr has) =
      let from = from_map (λ (x : ℕ). Some x) (up_from 0 (length t.nets)) (Some net) has in
      let same : from.item ≡ net = cc from.is in
      omega (arith, (up_has 0 (length t.nets) from.item from.has).1, same)

  pub entry_on : (made : List Decision) (todo : List (List Decision)) (pin : ℕ) (net : Option ℕ) → Owes g t made todo → entry_in made pin ≡ Some net → IsEntryHeld g t pin net
  entry_on [] todo pin net owes is = absurd (none_some is)
  entry_on (decision.Entry q o ∷ made) todo pin net owes is = elim (eqb_tells q.0 pin) [
    | inl same ↦ (
        let here : o ≡ net = some_injective (rw same.0 at is) in
        let from = from_map (λ (n : Option ℕ). decision.Entry q n) (None ∷ map (λ (n : ℕ). Some n) (up_from 0 (length t.nets))) (decision.Entry q o) (chosen made (decision.Entry q o) todo owes.0 owes.1) in
        let item : from.item ≡ o = cc from.is in
        record {
          root = subst (λ x. IsRootInput g x) same.1 owes.1.live.0;
          free = owes.1.live.1;
          fits = subst (λ x. FitsEntry t x) (item ∙ here) (fits_entry from.item from.has);
        })
    | inr apart ↦ entry_on made owes.0 pin net owes.2 (rw apart.0 at is)
  ]
  entry_on (decision.Mode p k ∷ made) todo pin net owes is = entry_on made owes.0 pin net owes.2 is
  entry_on (decision.Occupant l o ∷ made) todo pin net owes is = entry_on made owes.0 pin net owes.2 is
  entry_on (decision.Edge p k e ∷ made) todo pin net owes is = entry_on made owes.0 pin net owes.2 is

  -- an atom is placed once

  unplaced : (made : List Decision) (leaf place : ℕ) → Has (occupants g t made leaf) (Atom place) → is_placed made place ≡ false
  unplaced made leaf place (inl is) = absurd (let bad : ⊥ = cc is in bad)
  unplaced made leaf place (inr has) = elim (has_either (map (λ place. Atom place) (filter (may_hold t made leaf) (up_from 0 (length t.atoms)))) (map (λ input. Wire input) (up_from 0 (wires_at g leaf))) (Atom place) has) [
    | inl held ↦ (
        let from = from_map (λ place. Atom place) (filter (may_hold t made leaf) (up_from 0 (length t.atoms))) (Atom place) held in
        let same : from.item ≡ place = cc from.is in
        let may = (from_filter (may_hold t made leaf) (up_from 0 (length t.atoms)) from.item from.has).1 in
        subst (λ x. is_placed made x ≡ false) same (and_not (can_hold t from.item leaf) (is_placed made from.item) may))
    | inr wire ↦ (let from = from_map (λ input. Wire input) (up_from 0 (wires_at g leaf)) (Atom place) wire in let bad : ⊥ = cc from.is in absurd bad)
  ]

  twice : (made : List Decision) (l : PbIx) (o : Occupant) (place : ℕ) → Has (options g t made (var_of (decision.Occupant l o))) (decision.Occupant l o) → o ≡ Atom place → is_placed made place ≡ true → ⊥
  twice made l o place has is placed =
      let from = from_map (λ x. decision.Occupant l x) (occupants g t made l.0) (decision.Occupant l o) has in
      let item : from.item ≡ Atom place = (let same : from.item ≡ o = cc from.is in same ∙ is) in
      let free = unplaced made l.0 place (subst (λ x. Has (occupants g t made l.0) x) item from.has) in
      cc (sym free ∙ placed)

  pub one_home : (made : List Decision) (todo : List (List Decision)) (place a b : ℕ) → Owes g t made todo → occupant_in made a ≡ Some (Atom place) → occupant_in made b ≡ Some (Atom place) → a ≡ b
  one_home [] todo place a b owes at_a at_b = absurd (none_some at_a)
  one_home (decision.Occupant l o ∷ made) todo place a b owes at_a at_b = elim (eqb_tells l.0 a) [
    | inl first ↦ elim (eqb_tells l.0 b) [
      | inl second ↦ sym first.1 ∙ second.1
      | inr apart ↦ absurd (twice made l o place (chosen made (decision.Occupant l o) todo owes.0 owes.1) (some_injective (rw first.0 at at_a)) (placed_by made b place (rw apart.0 at at_b)))
    ]
    | inr other ↦ elim (eqb_tells l.0 b) [
      | inl second ↦ absurd (twice made l o place (chosen made (decision.Occupant l o) todo owes.0 owes.1) (some_injective (rw second.0 at at_b)) (placed_by made a place (rw other.0 at at_a)))
      | inr apart ↦ one_home made owes.0 place a b owes.2 (rw other.0 at at_a) (rw apart.0 at at_b)
    ]
  ]
  one_home (decision.Mode p k ∷ made) todo place a b owes at_a at_b = one_home made owes.0 place a b owes.2 at_a at_b
  one_home (decision.Edge p k e ∷ made) todo place a b owes at_a at_b = one_home made owes.0 place a b owes.2 at_a at_b
  one_home (decision.Entry p o ∷ made) todo place a b owes at_a at_b = one_home made owes.0 place a b owes.2 at_a at_b

  pub held : ListsEnds g → (made : List Decision) (todo : List (List Decision)) → Owes g t made todo → AreHeld g t made
  held lists made todo owes = record {
    modes = λ pb mode is. mode_on made todo pb mode owes is;
    leaves = λ leaf occupant is. leaf_on made todo leaf occupant owes is;
    pins = λ pin mode edge is. pin_on lists made todo pin mode edge owes is;
    entries = λ pin net is. entry_on made todo pin net owes is;
    one_home = λ place a b at_a at_b. one_home made todo place a b owes at_a at_b;
  }

-- nets come in at the block's own pins alone
pub enters : (g : Graph) (t : Task) (made : List Decision) → AreHeld g t made → EntersAtRoot g made
enters g t made held = record { each = λ pin some. by pin (entry_in made pin) refl some }
  where
    by : (pin : ℕ) (o : Option (Option ℕ)) → entry_in made pin ≡ o → IsSome o → IsRootInput g pin
    by pin None is some = absurd (let bad : ⊥ = cc some in bad)
    by pin (Some net) is some = (held.entries pin net is).root
