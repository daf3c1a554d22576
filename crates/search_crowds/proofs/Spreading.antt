-- Edges and what is reached, as they grow.
use Rattle.std.proofs.Common.{◌≡◌, ◌<◌, ◌≤◌, ◌+◌, inl, inr, ℕ, Bool, true, false, List, [], ◌∷◌, ◌++◌, Some, length, slice_get, sym, ap, ◌∙◌, subst, arith, append_assoc, append-nil}
use Rattle.std.specs.Prelude.{MatchBool}
use Rattle.std.proofs.lemmas.Bool.{cases_lt}
use Rattle.std.proofs.lemmas.Option.{slice_get_within}
use Rattle.vtr_base.specs.Lists.{Has}
use Rattle.list_laws.proofs.Members.{has_at, at_has, has_left, has_last, has_pushed}
use Rattle.list_laws.proofs.Places.{get_front, element}
use Rattle.pb_expand.specs.Graph.{Graph}
use Rattle.task_types.specs.declared.decision.Decision.{Decision}
use Rattle.task_types.specs.Open.{AllowsStep}
use Rattle.sparse_set.specs.Sets.{Held, Joins, Stays}
use Rattle.task_reach.specs.Gains.{Gains}
use Rattle.search_crowds.specs.Webs.{AddsEdges, IsSpread}

some_same : {X : Type 0} {x y : X} → Some x ≡ Some y → x ≡ y
some_same e = cc

-- what was added to a set, or was there
pub record IsPut (old new : List ℕ) (x : ℕ) : Type 0 where
  pub more : List ℕ
  pub grown : new ≡ old ++ more
  pub there : Has new x

pub put_either : (old new : Held) (x : ℕ) (b : Bool) → MatchBool b (Joins old new x) (Stays old new x) → IsPut old.items new.items x
put_either old new x true joins = record {
  more = x ∷ [];
  grown = ap (λ (h : Held). h.items) joins.is;
  there = subst (λ (h : Held). Has h.items x) (sym joins.is) (has_last old.items x);
}
put_either old new x false stays = record {
  more = [];
  grown = ap (λ (h : Held). h.items) stays.is ∙ sym (append-nil old.items);
  there = subst (λ (h : Held). Has h.items x) (sym stays.is) stays.there;
}

pub room_kept : (old new : Held) (x : ℕ) (b : Bool) → MatchBool b (Joins old new x) (Stays old new x) → new.room ≡ old.room
room_kept old new x true joins = ap (λ (h : Held). h.room) joins.is
room_kept old new x false stays = ap (λ (h : Held). h.room) stays.is

pub edges_none : (pin : ℕ) (sources old : List ℕ) (before : List (ℕ × ℕ)) → AddsEdges pin sources 0 old old before before
edges_none pin sources old before = record {
  more = [];
  grown = sym (append-nil old);
  kept = λ p q has. has;
  each = λ p q has. inl has;
  all = λ k source less at. absurd (omega (arith, less));
}

pub edges_more : (pin : ℕ) (sources : List ℕ) (n source : ℕ) (old now new : List ℕ) (before middle : List (ℕ × ℕ)) → slice_get sources n ≡ Some source → IsPut now new source →
    AddsEdges pin sources n old now before middle → AddsEdges pin sources (n + 1) old new before (middle ++ (pin, source) ∷ [])
edges_more pin sources n source old now new before middle at put adds = record {
  more = adds.more ++ put.more;
  grown = put.grown ∙ ap (λ l. l ++ put.more) adds.grown ∙ append_assoc old adds.more put.more;
  kept = λ p q has. has_left middle ((pin, source) ∷ []) (p, q) (adds.kept p q has);
  each = λ p q has. elim (has_pushed middle (pin, source) (p, q) has) [
    | inl there ↦ adds.each p q there
    | inr new ↦ (
        let same_p : p ≡ pin = ap {A = ℕ × ℕ} (λ x. x.0) new in
        let same_q : q ≡ source = ap {A = ℕ × ℕ} (λ x. x.1) new in
        inr (same_p, subst (λ x. Has sources x) (sym same_q) (has_at sources n source at)))
  ];
  all = λ k s less found. elim (cases_lt k n) [
    | inl early ↦ (
        let r = adds.all k s early found in
        (has_left middle ((pin, source) ∷ []) (pin, s) r.0, subst (λ l. Has l s) (sym put.grown) (has_left now put.more s r.1)))
    | inr met ↦ (
        let same : k ≡ n = omega (arith, less, met) in
        let is : source ≡ s = some_same (sym at ∙ ap (λ i. slice_get sources i) (sym same) ∙ found) in
        (subst (λ x. Has {X = ℕ × ℕ} (middle ++ (pin, source) ∷ []) (pin, x)) is (has_last middle (pin, source)), subst (λ x. Has new x) is put.there))
  ];
}

module _ (g : Graph) (made : List Decision) where
  pub spread_none : (first : List ℕ) → IsSpread g made first first 0 []
  spread_none first = record {
    kept = λ p has. has;
    each = λ p q has. absurd has;
    all = λ k p q less at step. absurd (omega (arith, less));
  }

  -- the steps back from one pin more
  pub spread_more : (first old new steps : List ℕ) (at pin : ℕ) (before after : List (ℕ × ℕ)) → slice_get old at ≡ Some pin → Gains [] steps (AllowsStep g made pin) →
      AddsEdges pin steps (length steps) old new before after → IsSpread g made first old at before → IsSpread g made first new (at + 1) after
  spread_more first old new steps at pin before after is gains adds spread = record {
    kept = λ p has. up p (spread.kept p has);
    each = λ p q has. elim (adds.each p q has) [
      | inl there ↦ (let r = spread.each p q there in (up p r.0, up q r.1, r.2))
      | inr edge ↦ (
        subst (λ x. Has new x) (sym edge.0) (up pin (has_at old at pin is)),
        (there q edge.1).1,
        subst (λ x. AllowsStep g made x q) (sym edge.0) (gains.each q (subst (λ l. Has l q) gains.is edge.1)),
      )
    ];
    all = λ k p q less found step. elim (cases_lt k at) [
      | inl early ↦ (
          let inside = slice_get_within old at pin is in
          let same = old_at k p (omega (arith, early, inside)) found in
          let r = spread.all k p q early same step in
          (adds.kept p q r.0, up q r.1))
      | inr met ↦ (
          let inside = slice_get_within old at pin is in
          let same : k ≡ at = omega (arith, less, met) in
          let met_at : slice_get old at ≡ Some p = subst (λ i. slice_get old i ≡ Some p) same (old_at k p (omega (arith, same, inside)) found) in
          let pins : pin ≡ p = some_same (sym is ∙ met_at) in
          let r = there q (gains.all q (subst (λ x. AllowsStep g made x q) (sym pins) step)) in
          (subst (λ x. Has {X = ℕ × ℕ} after (x, q)) pins r.0, r.1))
    ];
  }
    where
      up : (y : ℕ) → Has old y → Has new y
      up y has = subst (λ l. Has l y) (sym adds.grown) (has_left old adds.more y has)

      there : (q : ℕ) → Has steps q → Has {X = ℕ × ℕ} after (pin, q) × Has new q
      there q has = let r = at_has steps q has in adds.all r.0 q (slice_get_within steps r.0 q r.1) r.1

      old_at : (k p : ℕ) → k < length old → slice_get new k ≡ Some p → slice_get old k ≡ Some p
      old_at k p inside found =
          let e = element old k inside in
          let same : e.0 ≡ p = some_same (sym (get_front old adds.more k e.0 e.1) ∙ ap (λ l. slice_get l k) (sym adds.grown) ∙ found) in
          e.1 ∙ ap (λ z. Some z) same

  -- all that is reached was gone on from
  pub spread_all : (first reached : List ℕ) (at : ℕ) (edges : List (ℕ × ℕ)) → length reached ≤ at → IsSpread g made first reached at edges → IsSpread g made first reached (length reached) edges
  spread_all first reached at edges whole spread = record {
    kept = spread.kept;
    each = spread.each;
    all = λ k p q less found step. spread.all k p q (omega (arith, less, whole)) found step;
  }
