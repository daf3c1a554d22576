-- A walk over nodes that weren't met, node by node.
use Rattle.std.proofs.Common.{◌≡◌, ◌⊎◌, ◌<◌, ◌+◌, ◌≤◌, inl, inr, ℕ, zero, suc, Bool, true, false, List, [], ◌∷◌, ◌++◌, Option, Some, length, set, refl, sym, ap, ◌∙◌, subst, arith}
use Rattle.std.specs.Prelude.{slice_get}
use Rattle.std.proofs.Math.ListN.{length-set}
use Rattle.std.proofs.lemmas.Bool.{cases_eq}
use Rattle.std.proofs.lemmas.Option.{slice_get_within}
use Rattle.vtr_base.specs.Lists.{Has}
use Rattle.list_laws.proofs.Members.{has_left, has_right, has_pushed}
use Rattle.list_laws.proofs.Onces.{once_pushed}
use Rattle.list_laws.proofs.Places.{element}
use Rattle.prog_map.specs.Walk.{IsLast}
use Rattle.prog_map.specs.Ends.{Leads, last_of, AreSettled, IsSettled, AreOpen, IsWalked, EndsAt}
use Rattle.prog_map.proofs.Climbs.{some_injective}
use Rattle.prog_map.proofs.Paths.{last_back, path_joined}

pub at_set : {X : Type 0} (xs : List X) (i : ℕ) (x : X) → i < length xs → slice_get (set xs i x) i ≡ Some x
at_set [] i x inside = absurd (omega arith)
at_set (y ∷ ys) zero x inside = refl
at_set (y ∷ ys) (suc i) x inside = at_set ys i x (omega arith)

pub off_set : {X : Type 0} (xs : List X) (i : ℕ) (x : X) (k : ℕ) → (k ≡ i → ⊥) → slice_get (set xs i x) k ≡ slice_get xs k
off_set [] i x k apart = refl
off_set (y ∷ ys) zero x zero apart = absurd (apart refl)
off_set (y ∷ ys) zero x (suc k) apart = refl
off_set (y ∷ ys) (suc i) x zero apart = refl
off_set (y ∷ ys) (suc i) x (suc k) apart = off_set ys i x k (λ e. apart (ap suc e))

some_other : {X : Type 0} → Some true ≡ Some false → X
some_other e = absurd (cc)

-- a mark that is set
set_kept : (met : List Bool) (i node : ℕ) → i < length met → slice_get met node ≡ Some true → slice_get (set met i true) node ≡ Some true
set_kept met i node inside is = elim (cases_eq node i) [
  | inl same ↦ ap (λ k. slice_get (set met i true) k) same ∙ at_set met i true inside
  | inr other ↦ off_set met i true node other ∙ is
]

set_only : (met : List Bool) (i node : ℕ) → slice_get (set met i true) node ≡ Some true → (slice_get met node ≡ Some true) ⊎ (node ≡ i)
set_only met i node is = elim (cases_eq node i) [ inl same ↦ inr same | inr other ↦ inl (sym (off_set met i true node other) ∙ is) ]

-- a mark that isn't set
false_or : (met : List Bool) (node : ℕ) → node < length met → (slice_get met node ≡ Some true → ⊥) → slice_get met node ≡ Some false
false_or met node inside not_true = let e = element met node inside in by e.0 e.1
  where
    by : (b : Bool) → slice_get met node ≡ Some b → slice_get met node ≡ Some false
    by true is = absurd (not_true is)
    by false is = is

pub walked_first : (steps : List (Option ℕ)) (old : List Bool) (start : ℕ) → slice_get old start ≡ Some false → IsWalked steps old (set old start true) start start (start ∷ [])
walked_first steps old start is = record {
  later = [];
  is = refl;
  end_is = refl;
  path = tt;
  once = (λ has. has, tt);
  marks = length-set old start true;
  unmet = unmet;
  met = met;
  kept = λ node marked. set_kept old start node inside marked;
  only = λ node marked. elim (set_only old start node marked) [ inl before ↦ inl before | inr same ↦ inr (inl same) ];
}
  where
    inside : start < length old
    inside = slice_get_within old start false is

    unmet : (node : ℕ) → Has (start ∷ []) node → slice_get old node ≡ Some false
    unmet node (inl same) = ap (λ k. slice_get old k) same ∙ is
    unmet node (inr none) = absurd none

    met : (node : ℕ) → Has (start ∷ []) node → slice_get (set old start true) node ≡ Some true
    met node (inl same) = ap (λ k. slice_get (set old start true) k) same ∙ at_set old start true inside
    met node (inr none) = absurd none

pub walked_next : (steps : List (Option ℕ)) (old new : List Bool) (start end : ℕ) (walk : List ℕ) (next : ℕ) → IsWalked steps old new start end walk → Leads steps end next →
    slice_get new next ≡ Some false → IsWalked steps old (set new next true) start next (walk ++ next ∷ [])
walked_next steps old new start end walk next w leads is = record {
  later = w.later ++ next ∷ [];
  is = ap (λ l. l ++ next ∷ []) w.is;
  end_is = sym (last_back start w.later next []);
  path = path_joined (Leads steps) start w.later next [] w.path (ap (λ k. slice_get steps k) (sym w.end_is) ∙ leads) tt;
  once = once_pushed (start ∷ w.later) next w.once (λ has. some_other (sym (w.met next (subst (λ l. Has l next) (sym w.is) has)) ∙ is));
  marks = length-set new next true ∙ w.marks;
  unmet = λ node has. elim (has_pushed walk next node has) [ inl before ↦ w.unmet node before | inr same ↦ ap (λ k. slice_get old k) same ∙ not_old ];
  met = λ node has. elim (has_pushed walk next node has) [
    | inl before ↦ set_kept new next node inside (w.met node before)
    | inr same ↦ ap (λ k. slice_get (set new next true) k) same ∙ at_set new next true inside
  ];
  kept = λ node marked. set_kept new next node inside (w.kept node marked);
  only = λ node marked. elim (set_only new next node marked) [
    | inl before ↦ elim (w.only node before) [ inl first ↦ inl first | inr has ↦ inr (has_left walk (next ∷ []) node has) ]
    | inr same ↦ inr (has_right walk (next ∷ []) node (inl same))
  ];
}
  where
    inside : next < length new
    inside = slice_get_within new next false is

    not_old : slice_get old next ≡ Some false
    not_old = false_or old next (omega (arith, inside, w.marks)) (λ before. some_other (sym (w.kept next before) ∙ is))

-- the nodes that weren't met before are on the walk
pub open_of : (steps : List (Option ℕ)) (old new : List Bool) (last : List ℕ) (start end : ℕ) (walk : List ℕ) → AreSettled steps old last → IsWalked steps old new start end walk →
    EndsAt steps new end → AreOpen steps new last end walk
open_of steps old new last start end walk s w ends = record {
  start = start;
  later = w.later;
  is = w.is;
  end_is = w.end_is;
  path = w.path;
  once = w.once;
  ends = ends;
  marks = w.marks ∙ s.marks;
  all = s.all;
  marked = w.met;
  rest = λ node marked. elim (w.only node marked) [ inl before ↦ inr (was node before) | inr has ↦ inl has ];
}
  where
    off : (node : ℕ) → slice_get old node ≡ Some true → Has walk node → ⊥
    off node before has = some_other (sym before ∙ w.unmet node has)

    was : (node : ℕ) → slice_get old node ≡ Some true → IsSettled steps new last walk node
    was node before =
        let e = s.end node before in record {
          end = e.0;
          is = e.1;
          is_last = e.2;
          apart = off node before;
          closed = λ next leads. (w.kept next (s.closed node next before leads), off next (s.closed node next before leads));
        }

-- how many nodes weren't met
abbrev pub unmet_count : List Bool → ℕ
unmet_count [] = 0
unmet_count (true ∷ met) = unmet_count met
unmet_count (false ∷ met) = 1 + unmet_count met

pub unmet_falls : (met : List Bool) (next : ℕ) → slice_get met next ≡ Some false → unmet_count (set met next true) < unmet_count met
unmet_falls [] next is = absurd (cc)
unmet_falls (true ∷ met) zero is = some_other is
unmet_falls (false ∷ met) zero is = omega arith
unmet_falls (true ∷ met) (suc n) is = unmet_falls met n is
unmet_falls (false ∷ met) (suc n) is = let rest = unmet_falls met n is in omega (arith, rest)

pub walked_inside : (steps : List (Option ℕ)) (old new : List Bool) (start end : ℕ) (walk : List ℕ) → length old ≡ length steps → IsWalked steps old new start end walk →
    end < length steps
walked_inside steps old new start end walk long w =
    let inside = slice_get_within new end true (w.met end (subst (λ l. Has l end) (sym w.is) (subst (Has (start ∷ w.later)) (sym w.end_is) (has_end start w.later)))) in
    omega (arith, inside, w.marks, long)
  where
    has_end : (node : ℕ) (later : List ℕ) → Has (node ∷ later) (last_of node later)
    has_end node [] = inl refl
    has_end node (next ∷ later) = inr (has_end next later)

pub all_ended : (steps : List (Option ℕ)) (met : List Bool) (last : List ℕ) (count : ℕ) → AreSettled steps met last →
    ((node : ℕ) → node < count → slice_get met node ≡ Some true) → length steps ≤ count → (node end : ℕ) → slice_get last node ≡ Some end → IsLast (Leads steps) node end
all_ended steps met last count s met_all whole node end is =
    let inside = slice_get_within last node end is in
    let e = s.end node (met_all node (omega (arith, inside, whole, s.all))) in
    subst (λ x. IsLast (Leads steps) node x) (some_injective (sym e.1 ∙ is)) e.2
