-- Pairs of atoms and open leaves that come one after the other.
use Rattle.std.proofs.Common.{◌≡◌, ◌<◌, ◌≤◌, ◌+◌, ◌==◌, ◌⊎◌, inl, inr, ℕ, zero, suc, true, List, [], ◌∷◌, ◌++◌, Option, Some, None, length, slice_get, slice_index_or, refl, sym, ap, ◌∙◌, subst, arith}
use Rattle.std.specs.List.{list_any}
use Rattle.std.proofs.lemmas.Bool.{cases_Bool, cases_lt}
use Rattle.std.proofs.lemmas.Bool.Decides.{nat_tests}
use Rattle.std.proofs.lemmas.Option.{get_or_from_slice_get, slice_get_within}
use Rattle.vtr_base.specs.Lists.{Has}
use Rattle.list_laws.proofs.Members.{has_at, has_left, has_last, has_pushed}
use Rattle.pb_expand.specs.declared.number.PbIx.{PbIx}
use Rattle.pb_expand.specs.Graph.{Graph, pb_ix}
use Rattle.task_types.specs.declared.task.Task.{Task}
use Rattle.task_types.specs.declared.decision.Decision.{Decision}
use Rattle.task_types.specs.Open.{IsOpenTo}
use Rattle.task_reach.specs.Valid.{IsTaskOf}
use Rattle.search_homes.specs.Pairs.{AreOpenPairs, AddsOpen}

nothing_at : (xss : List (List PbIx)) (k : ℕ) → slice_get xss k ≡ None → slice_index_or xss k [] ≡ []
nothing_at [] k is = refl
nothing_at (xs ∷ xss) zero is = absurd (let bad : ⊥ = cc is in bad)
nothing_at (xs ∷ xss) (suc k) is = nothing_at xss k is

pub no_homes : (t : Task) (place : ℕ) → slice_get t.homes place ≡ None → [] ≡ slice_index_or t.homes place []
no_homes t place none = sym (nothing_at t.homes place none)

pub some_homes : (t : Task) (place : ℕ) (leaves list : List PbIx) → slice_get t.homes place ≡ Some leaves → list ≡ leaves → list ≡ slice_index_or t.homes place []
some_homes t place leaves list is same = same ∙ sym (get_or_from_slice_get t.homes place leaves [] is)

pub listed_inside : (g : Graph) (t : Task) (place n : ℕ) (list : List PbIx) (leaf : PbIx) → IsTaskOf g t → list ≡ slice_index_or t.homes place [] → slice_get list n ≡ Some leaf → leaf.0 < length g.instances
listed_inside g t place n list leaf task is found = by (slice_get t.homes place) refl
  where
    by : (o : Option (List PbIx)) → slice_get t.homes place ≡ o → leaf.0 < length g.instances
    by None none = absurd (let bad : ⊥ = cc (sym found ∙ ap (λ xs. slice_get xs n) (is ∙ nothing_at t.homes place none)) in bad)
    by (Some leaves) some = task.leaves place leaves leaf some (has_at leaves n leaf (ap (λ xs. slice_get xs n) (sym (is ∙ get_or_from_slice_get t.homes place leaves [] some)) ∙ found))

any_found : (xs : List PbIx) (leaf : ℕ) → list_any (λ (pb : PbIx). pb.0 == leaf) xs ≡ true → (k : ℕ) × (slice_get xs k ≡ Some (pb_ix leaf))
any_found [] leaf is = absurd (let bad : ⊥ = cc is in bad)
any_found (x ∷ xs) leaf is = elim (cases_Bool (x.0 == leaf)) [
  | inl here ↦ (0, let same : x.0 ≡ leaf = grind (arith, nat_tests) in ap (λ n. Some (pb_ix n)) same)
  | inr not_here ↦ (let r = any_found xs leaf (rw not_here at is) in (suc r.0, r.1))
]

-- an open leaf is listed
pub open_inside : (g : Graph) (t : Task) (made : List Decision) (place leaf : ℕ) → IsTaskOf g t → IsOpenTo g t made place leaf → leaf < length g.instances
open_inside g t made place leaf task opens =
    let r = any_found (slice_index_or t.homes place []) leaf opens.holds in
    listed_inside g t place r.0 (slice_index_or t.homes place []) (pb_ix leaf) task refl r.1

module _ (g : Graph) (t : Task) (made : List Decision) where
  -- the open ones of the first leaves of the list were added
  pub record IsAdding (atom : ℕ) (old : List (ℕ × ℕ)) (list : List PbIx) (n : ℕ) (now : List (ℕ × ℕ)) : Type 0 where
    pub each : (place leaf : ℕ) → Has {X = ℕ × ℕ} now (place, leaf) → Has {X = ℕ × ℕ} old (place, leaf) ⊎ ((place ≡ atom) × IsOpenTo g t made place leaf)
    pub kept : (place leaf : ℕ) → Has {X = ℕ × ℕ} old (place, leaf) → Has {X = ℕ × ℕ} now (place, leaf)
    pub all : (leaf k : ℕ) → k < n → slice_get list k ≡ Some (pb_ix leaf) → IsOpenTo g t made atom leaf → Has {X = ℕ × ℕ} now (atom, leaf)

  pub adding_none : (atom : ℕ) (old : List (ℕ × ℕ)) (list : List PbIx) → IsAdding atom old list 0 old
  adding_none atom old list = record { each = λ place leaf has. inl has; kept = λ place leaf has. has; all = λ leaf k less at open'. absurd (omega (arith, less)) }

  module _ (atom : ℕ) (old : List (ℕ × ℕ)) (list : List PbIx) (n : ℕ) (now : List (ℕ × ℕ)) (leaf : PbIx) (at : slice_get list n ≡ Some leaf) (is : IsAdding atom old list n now) where
    pub adding_push : IsOpenTo g t made atom leaf.0 → IsAdding atom old list (n + 1) (now ++ (atom, leaf.0) ∷ [])
    adding_push opens = record {
      each = λ p l has. elim (has_pushed now (atom, leaf.0) (p, l) has) [
        | inl before ↦ is.each p l before
        | inr new ↦ (
            let same_p : p ≡ atom = ap {A = ℕ × ℕ} (λ x. x.0) new in
            let same_l : l ≡ leaf.0 = ap {A = ℕ × ℕ} (λ x. x.1) new in
            inr (same_p, subst (λ q. IsOpenTo g t made q l) (sym same_p) (subst (λ q. IsOpenTo g t made atom q) (sym same_l) opens)))
      ];
      kept = λ p l has. has_left now ((atom, leaf.0) ∷ []) (p, l) (is.kept p l has);
      all = λ l k less found open'. elim (cases_lt k n) [
        | inl before ↦ has_left now ((atom, leaf.0) ∷ []) (atom, l) (is.all l k before found open')
        | inr here ↦ (
            let same : k ≡ n = omega (arith, less, here) in
            let e : Some leaf ≡ Some (pb_ix l) = sym at ∙ ap (λ i. slice_get list i) (sym same) ∙ found in
            let q : leaf ≡ pb_ix l = cc e in
            let r : leaf.0 ≡ l = ap (λ (x : PbIx). x.0) q in
            subst (λ x. Has {X = ℕ × ℕ} (now ++ (atom, leaf.0) ∷ []) (atom, x)) r (has_last now (atom, leaf.0)))
      ];
    }

    pub adding_skip : (IsOpenTo g t made atom leaf.0 → ⊥) → IsAdding atom old list (n + 1) now
    adding_skip closed = record {
      each = is.each;
      kept = is.kept;
      all = λ l k less found open'. elim (cases_lt k n) [
        | inl before ↦ is.all l k before found open'
        | inr here ↦ absurd (
            let same : k ≡ n = omega (arith, less, here) in
            let e : Some leaf ≡ Some (pb_ix l) = sym at ∙ ap (λ i. slice_get list i) (sym same) ∙ found in
            let q : leaf ≡ pb_ix l = cc e in
            let r : leaf.0 ≡ l = ap (λ (x : PbIx). x.0) q in
            closed (subst (λ x. IsOpenTo g t made atom x) (sym r) open'))
      ];
    }

  pub adding_done : (atom : ℕ) (old : List (ℕ × ℕ)) (list : List PbIx) (n : ℕ) (now : List (ℕ × ℕ)) → list ≡ slice_index_or t.homes atom [] → length list ≤ n → IsAdding atom old list n now → AddsOpen g t made atom old now
  adding_done atom old list n now same whole is = record {
    each = is.each;
    kept = is.kept;
    all = λ leaf opens. (
        let r = any_found list leaf (ap (λ l. list_any (λ (pb : PbIx). pb.0 == leaf) l) same ∙ opens.holds) in
        let less = slice_get_within list r.0 (pb_ix leaf) r.1 in
        is.all leaf r.0 (omega (arith, less, whole)) r.1 opens);
  }

  pub pairs_none : AreOpenPairs g t made 0 []
  pairs_none = record { each = λ place leaf has. absurd has; all = λ place leaf less opens. absurd (omega (arith, less)) }

  pub pairs_more : (n : ℕ) (old new : List (ℕ × ℕ)) → AreOpenPairs g t made n old → AddsOpen g t made n old new → AreOpenPairs g t made (n + 1) new
  pairs_more n old new is adds = record {
    each = λ place leaf has. elim (adds.each place leaf has) [
      | inl before ↦ (let r = is.each place leaf before in (omega (arith, r.0), r.1))
      | inr here ↦ (omega (arith, here.0), here.1)
    ];
    all = λ place leaf less opens. elim (cases_lt place n) [
      | inl before ↦ adds.kept place leaf (is.all place leaf before opens)
      | inr here ↦ (
          let same : place ≡ n = omega (arith, less, here) in
          subst (λ p. Has {X = ℕ × ℕ} new (p, leaf)) (sym same) (adds.all leaf (subst (λ p. IsOpenTo g t made p leaf) same opens)))
    ];
  }
