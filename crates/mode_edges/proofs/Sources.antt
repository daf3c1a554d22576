-- Sources in turn to all ends: a source or an end that comes again is passed over.
use Rattle.std.proofs.Common.{◌≡◌, ◌<◌, ℕ, Bool, true, false, cond, not, ◌⊎◌, inl, inr, List, [], ◌∷◌, ◌++◌, length, refl, sym, ◌∙◌, ap, subst, arith}
use Rattle.std.specs.List.{list_any}
use Rattle.std.proofs.lemmas.Bool.{cases_Bool, cond-true, cond-false, not-false}
use Rattle.vtr_base.specs.Lists.{Has}
use Rattle.mode_edges.specs.declared.pin.LocalPin.{LocalPin}
use Rattle.mode_edges.specs.declared.pin.LocalEdge.{LocalEdge}
use Rattle.mode_edges.specs.Pairs.{same_pin, with_edges, row, rows, AddsUpTo, SameEnds}
use Rattle.mode_edges.proofs.PairKeys.{pin_found}
use Rattle.mode_edges.proofs.Gathering.{AllJoined, joins_all, all_kept, all_joined, IsAdding, adding_starts, adding_goes_on, adding_skips, adding_stops, end_again, end_new, with_both, rows_same, rows_to_none, nothing_new}

-- the pins of a set after one was put in
abbrev pub with_pin : List LocalPin → LocalPin → List LocalPin
with_pin pins x = cond (list_any (same_pin x) pins) pins (pins ++ x ∷ [])

has_before : (xs ys : List LocalPin) (x y : LocalPin) → ys ≡ y ∷ [] → Has (xs ++ ys) x → Has xs x ⊎ (x ≡ y)
has_before [] ys x y one h = elim (subst (λ (l : List LocalPin). Has l x) one h) [ inl is ↦ inr is | inr none ↦ absurd none ]
has_before (z ∷ xs) ys x y one (inl is) = inl (inl is)
has_before (z ∷ xs) ys x y one (inr h) = elim (has_before xs ys x y one h) [ inl there ↦ inl (inr there) | inr is ↦ inr is ]

pub put_in : (pins longer : List LocalPin) (x s : LocalPin) → longer ≡ with_pin pins x → Has longer s → Has pins s ⊎ (s ≡ x)
put_in pins longer x s is h =
    elim (cases_Bool (list_any (same_pin x) pins)) [
      | inl t ↦ inl (subst (λ (l : List LocalPin). Has l s) (is ∙ cond-true (list_any (same_pin x) pins) pins (pins ++ x ∷ []) t) h)
      | inr f ↦ has_before pins (x ∷ []) s x refl (subst (λ (l : List LocalPin). Has l s) (is ∙ cond-false (list_any (same_pin x) pins) pins (pins ++ x ∷ []) f) h)
    ]

-- what is put in again was there
pub was_there : (pins : List LocalPin) (x : LocalPin) (added : Bool) → added ≡ not (list_any (same_pin x) pins) → added ≡ false → Has pins x
was_there pins x added is f = pin_found pins x (not-false (list_any (same_pin x) pins) (sym is ∙ f))

-- an end was met
pub end_met : (ends longer left whole outs : List LocalPin) (d : LocalPin) → longer ≡ with_pin ends d → whole ≡ d ∷ left → SameEnds (ends ++ whole) outs →
    SameEnds (longer ++ left) outs
end_met ends longer left whole outs d is cut same =
    let now = subst (λ (l : List LocalPin). SameEnds (ends ++ l) outs) cut same in
    elim (cases_Bool (list_any (same_pin d) ends)) [
      | inl t ↦ subst (λ (l : List LocalPin). SameEnds (l ++ left) outs) (sym (is ∙ cond-true (list_any (same_pin d) ends) ends (ends ++ d ∷ []) t))
          (end_again ends left outs d (pin_found ends d t) now)
      | inr f ↦ end_new ends longer left outs d (is ∙ cond-false (list_any (same_pin d) ends) ends (ends ++ d ∷ []) f) now
    ]

-- the sources that are left go to all ends; the edges of those that were seen are there
pub record IsSourcing (most inter : ℕ) (old now : List LocalEdge) (ins left ends seen : List LocalPin) : Type 0 where
  pub adding : IsAdding most old now (rows inter ins ends) (rows inter left ends)
  pub there : (s : LocalPin) → Has seen s → AllJoined now (row inter s ends)

pub sources_start : (most inter : ℕ) (old : List LocalEdge) (ins ends none seen : List LocalPin) (first : LocalPin) → none ≡ [] → seen ≡ with_pin none first →
    with_edges old (row inter first ends) ≡ old → IsSourcing most inter old old ins ins ends seen
sources_start most inter old ins ends none seen first empty is known = record {
  adding = adding_starts most old (rows inter ins ends);
  there = λ s h. elim (put_in none seen first s is h) [
    | inl had ↦ absurd (subst (λ (l : List LocalPin). Has l s) empty had)
    | inr same ↦ subst (λ (x : LocalPin). AllJoined old (row inter x ends)) (sym same) (all_joined old (row inter first ends) known)
  ];
}

pub source_adds : (most inter : ℕ) (old now next : List LocalEdge) (ins whole left ends seen longer : List LocalPin) (s : LocalPin) → whole ≡ s ∷ left →
    longer ≡ with_pin seen s → IsSourcing most inter old now ins whole ends seen → AddsUpTo most now next (row inter s ends) true →
    IsSourcing most inter old next ins left ends longer
source_adds most inter old now next ins whole left ends seen longer s cut is a adds = record {
  adding = adding_goes_on most old now next (rows inter ins ends) (row inter s ends) (rows inter left ends) (rows inter whole ends)
      (ap (λ (l : List LocalPin). rows inter l ends) cut) a.adding adds;
  there = λ x h. elim (put_in seen longer s x is h) [ inl had ↦ kept x had | inr same ↦ new x same ];
}
  where
    kept : (x : LocalPin) → Has seen x → AllJoined next (row inter x ends)
    kept x had =
        subst (λ (l : List LocalEdge). AllJoined l (row inter x ends)) (sym adds.0) (all_kept now (row inter x ends) (row inter s ends) (a.there x had))

    new : (x : LocalPin) → x ≡ s → AllJoined next (row inter x ends)
    new x same =
        subst (λ (y : LocalPin). AllJoined next (row inter y ends)) (sym same)
        (subst (λ (l : List LocalEdge). AllJoined l (row inter s ends)) (sym adds.0) (joins_all now (row inter s ends)))

pub source_again : (most inter : ℕ) (old now : List LocalEdge) (ins whole left ends seen longer : List LocalPin) (s : LocalPin) → whole ≡ s ∷ left →
    longer ≡ with_pin seen s → Has seen s → IsSourcing most inter old now ins whole ends seen → IsSourcing most inter old now ins left ends longer
source_again most inter old now ins whole left ends seen longer s cut is had a = record {
  adding = adding_skips most old now (rows inter ins ends) (row inter s ends) (rows inter left ends) (rows inter whole ends)
      (ap (λ (l : List LocalPin). rows inter l ends) cut) a.adding (a.there s had);
  there = λ x h. elim (put_in seen longer s x is h) [
    | inl before ↦ a.there x before
    | inr same ↦ subst (λ (y : LocalPin). AllJoined now (row inter y ends)) (sym same) (a.there s had)
  ];
}

pub source_stops : (most inter : ℕ) (old now : List LocalEdge) (ins whole left ends seen : List LocalPin) (s : LocalPin) → whole ≡ s ∷ left →
    IsSourcing most inter old now ins whole ends seen → most < length (with_edges now (row inter s ends)) → most < length (with_edges old (rows inter ins ends))
source_stops most inter old now ins whole left ends seen s cut a more =
    adding_stops most old now (rows inter ins ends) (row inter s ends) (rows inter left ends) (rows inter whole ends)
    (ap (λ (l : List LocalPin). rows inter l ends) cut) a.adding more

-- the first source's edges and then those of the others
pub after_first : (inter : ℕ) (old mid : List LocalEdge) (ins left outs ends : List LocalPin) (s : LocalPin) → ins ≡ s ∷ left → SameEnds ends outs →
    mid ≡ with_edges old (row inter s outs) → with_edges mid (rows inter left ends) ≡ with_edges old (rows inter ins outs)
after_first inter old mid ins left outs ends s cut same added =
    rows_same inter ends outs same left mid
    ∙ (ap (λ (l : List LocalEdge). with_edges l (rows inter left outs)) added
    ∙ (sym (with_both old (row inter s outs) (rows inter left outs)) ∙ ap (λ (l : List LocalPin). with_edges old (rows inter l outs)) (sym cut)))

-- there are no ends
pub first_to_none : (most inter : ℕ) (old mid : List LocalEdge) (ins left outs ends : List LocalPin) (s : LocalPin) → ins ≡ s ∷ left → SameEnds ends outs →
    ends ≡ [] → AddsUpTo most old mid (row inter s outs) true → AddsUpTo most old mid (rows inter ins outs) true
first_to_none most inter old mid ins left outs ends s cut same none adds = (
  sym (ap (with_edges mid) (ap (rows inter left) none ∙ rows_to_none inter left)) ∙ after_first inter old mid ins left outs ends s cut same adds.0,
  adds.1,
)

pub first_known : (inter : ℕ) (old mid : List LocalEdge) (outs ends : List LocalPin) (s : LocalPin) → SameEnds ends outs → mid ≡ with_edges old (row inter s outs) →
    with_edges mid (row inter s ends) ≡ mid
first_known inter old mid outs ends s same added =
    nothing_new mid (row inter s ends)
    (subst (λ (l : List LocalEdge). AllJoined l (row inter s ends)) (same inter s old ∙ sym added) (joins_all old (row inter s ends)))

pub then_others : (most inter : ℕ) (old mid new : List LocalEdge) (ins left outs ends : List LocalPin) (s : LocalPin) (all : Bool) → ins ≡ s ∷ left →
    SameEnds ends outs → AddsUpTo most old mid (row inter s outs) true → AddsUpTo most mid new (rows inter left ends) all →
    AddsUpTo most old new (rows inter ins outs) all
then_others most inter old mid new ins left outs ends s true cut same first others =
    (others.0 ∙ after_first inter old mid ins left outs ends s cut same first.0, λ few. others.1 (first.1 few))
then_others most inter old mid new ins left outs ends s false cut same first others =
    subst (λ (l : List LocalEdge). most < length l) (after_first inter old mid ins left outs ends s cut same first.0) others

pub none_in : {X : Type 0} (xs : List X) → length xs ≡ 0 → xs ≡ []
none_in [] none = refl
none_in (x ∷ xs) none = absurd (omega arith)
