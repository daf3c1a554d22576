-- Entries by ascending pins, and programmings in which a site is set.
use Rattle.std.proofs.Common.{◌≡◌, ◌≢◌, ◌+◌, ◌-◌, ◌<◌, ◌≤◌, ◌⊎◌, ℕ, zero, suc, true, List, [], ◌∷◌, ◌++◌, Some, None, length, slice_get, refl, sym, ap, subst, ◌∙◌, inl, inr, arith}
use Rattle.std.specs.FinSet as set
use Rattle.std.specs.FinMap.{get-empty}
use Rattle.std.specs.Ordering.{nat_cmp}
use Rattle.std.proofs.lemmas.Bool.{cases_eq, false≢true}
use Rattle.std.proofs.lemmas.Option.{slice_get_within}
use Rattle.list_laws.proofs.Places.{element, get_either}
use Rattle.prog_map.specs.declared.choice.LutChoice.{LutChoice}
use Rattle.prog_map.specs.declared.setting.Setting.{Setting}
use Rattle.prog_map.specs.declared.setting.Setting.TheVariants.{Mode, Pick, Used, Lut}
use Rattle.prog_map.specs.Choices.{Choices, no_choices, mode_of, pick_of, is_used, lut_of, with_mode, with_pick, with_used, with_lut, site_cmp}
use Rattle.prog_map.specs.Settings.{SetsMode, SetsPick, SetsUsed, SetsLut}
use Rattle.prog_map.specs.Sites.{with_setting}
use Rattle.task_types.specs.declared.task.Entry.{Entry}
use Rattle.task_types.specs.declared.real.Real.{Real}
use Rattle.real_text.specs.Order.{AreRising, AreBefore, IsReached, IsTaken}
use Rattle.real_text.specs.Steps.{IsEntered, IsPassed}

some_is : {X : Type 0} {x y : X} → Some x ≡ Some y → x ≡ y
some_is e = cc

-- one entry more behind all others
pub rising_more : (es new : List Entry) (e : Entry) → AreRising es → AreBefore es e.pin.0 → new ≡ es ++ e ∷ [] → AreRising new
rising_more es new e rising before added =
    subst (λ (l : List Entry). AreRising l) (sym added)
    (record { each = λ i j a b low at_i at_j. by i j a b low at_i (get_either es (e ∷ []) i a at_i) (get_either es (e ∷ []) j b at_j) })
  where
    last : (j : ℕ) (b : Entry) → slice_get (e ∷ []) j ≡ Some b → (j ≡ 0) × (e ≡ b)
    last zero b at = (refl, some_is at)
    last (suc j) b at = absurd (cc)

    by : (i j : ℕ) (a b : Entry) → i < j → slice_get (es ++ e ∷ []) i ≡ Some a →
        (slice_get es i ≡ Some a) ⊎ ((k : ℕ) × (i ≡ length es + k) × (slice_get (e ∷ []) k ≡ Some a)) →
        (slice_get es j ≡ Some b) ⊎ ((k : ℕ) × (j ≡ length es + k) × (slice_get (e ∷ []) k ≡ Some b)) → a.pin.0 < b.pin.0
    by i j a b low at_i (inl front) (inl behind) = rising.each i j a b low front behind
    by i j a b low at_i (inl front) (inr y) =
        subst (λ (x : Entry). a.pin.0 < x.pin.0) (last y.0 b y.2).1 (before i a front)
    by i j a b low at_i (inr x) (inl behind) = absurd (omega (arith, low, x.1, slice_get_within es j b behind))
    by i j a b low at_i (inr x) (inr y) = absurd (omega (arith, low, x.1, y.1, (last x.0 a x.2).0, (last y.0 b y.2).0))

-- the last entry is before the pin, and so are all
pub all_before : (es : List Entry) (last : Entry) (pin : ℕ) → AreRising es → slice_get es (length es - 1) ≡ Some last → last.pin.0 < pin → AreBefore es pin
all_before es last pin rising is less place entry at = by (cases_eq place (length es - 1))
  where
    by : (place ≡ length es - 1) ⊎ (place ≡ length es - 1 → ⊥) → entry.pin.0 < pin
    by (inl same) =
        let one : last ≡ entry = some_is (sym is ∙ ap (λ (k : ℕ). slice_get es k) (sym same) ∙ at) in
        subst (λ (x : Entry). x.pin.0 < pin) one less
    by (inr other) =
        let low : place < length es - 1 = omega (arith, other, slice_get_within es place entry at) in
        omega (arith, less, rising.each place (length es - 1) entry last low at is)

pub none_before : (es : List Entry) (pin : ℕ) → slice_get es (length es - 1) ≡ None → AreBefore es pin
none_before [] pin none place entry at = absurd (cc)
none_before (e ∷ es) pin none place entry at =
    let last = element (e ∷ es) (length (e ∷ es) - 1) (omega arith) in
    let both = sym none ∙ last.1 in
    absurd (cc)

-- what was read before an entry that comes too late
pub too_late : (r : Real) (pin : ℕ) → IsTaken r pin → (IsEntered r.entries pin → ⊥) → (r.prog ≢ no_choices) ⊎ IsPassed r.entries pin
too_late r pin (inl begun) free = inl begun
too_late r pin (inr reached) free =
    by (cases_eq reached.entry.pin.0 pin)
  where
    by : (reached.entry.pin.0 ≡ pin) ⊎ (reached.entry.pin.0 ≡ pin → ⊥) → (r.prog ≢ no_choices) ⊎ IsPassed r.entries pin
    by (inl same) = absurd (free (record { place = reached.place; entry = reached.entry; is = reached.is; at = same }))
    by (inr other) = inr (record { place = reached.place; entry = reached.entry; is = reached.is; behind = omega (arith, other, reached.from) })

none_some : {X : Type 0} {x : X} → None ≡ Some x → ⊥
none_some e = cc

-- where a site was set, there is a choice
pub some_choice : ((c : Choices) (pb mode : ℕ) → SetsMode c (with_mode c pb mode) pb mode) → ((c : Choices) (pin mode edge : ℕ) → SetsPick c (with_pick c pin mode edge) pin mode edge) →
    ((c : Choices) (pb : ℕ) → SetsUsed c (with_used c pb) pb) → ((c : Choices) (pb : ℕ) (choice : LutChoice) → SetsLut c (with_lut c pb choice) pb choice) →
    (c new : Choices) (s : Setting) → new ≡ with_setting c s → new ≢ no_choices
some_choice modes picks uses luts c new (Mode pb mode) is none =
    none_some (sym (get-empty nat_cmp pb.0) ∙ subst (λ (d : Choices). mode_of d pb.0 ≡ Some mode) (sym is ∙ none) (modes c pb.0 mode).here)
some_choice modes picks uses luts c new (Pick pin mode edge) is none =
    none_some (sym (get-empty site_cmp (pin.0, mode)) ∙ subst (λ (d : Choices). pick_of d pin.0 mode ≡ Some edge.0) (sym is ∙ none) (picks c pin.0 mode edge.0).here)
some_choice modes picks uses luts c new (Used pb) is none =
    false≢true (sym (set.contains-empty nat_cmp pb.0) ∙ subst (λ (d : Choices). is_used d pb.0 ≡ true) (sym is ∙ none) (uses c pb.0).here)
some_choice modes picks uses luts c new (Lut pb choice) is none =
    none_some (sym (get-empty nat_cmp pb.0) ∙ subst (λ (d : Choices). lut_of d pb.0 ≡ Some choice) (sym is ∙ none) (luts c pb.0 choice).here)
