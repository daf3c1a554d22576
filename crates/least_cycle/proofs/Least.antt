-- The least number so far.
use Rattle.std.proofs.Common.{◌≡◌, ◌<◌, ◌==◌, ◌⊎◌, ℕ, Bool, true, false, List, [], ◌∷◌, ◌++◌, Option, Some, None, length, get_or, refl, sym, ap, ◌∙◌, subst, inl, inr, arith}
use Rattle.std.specs.Option.{option_eq}
use Rattle.std.proofs.lemmas.Bool.Decides.{nat_tests}
use Rattle.std.proofs.lemmas.Option.{slice_get-get_or, get_or_from_slice_get}
use Rattle.vtr_base.specs.Lists.{Has}
use Rattle.list_laws.proofs.Members.{has_at, has_left, has_last, has_pushed}
use Rattle.least_cycle.specs.Walks.{IsAt, IsDistanceOf, IsListedAt, LeadsLevel, IsLeastIfAny, IsLower}

module _ (P Q : ℕ → Type 0) where
  -- the same numbers
  pub least_same : (least : Option ℕ) → ((n : ℕ) → P n → Q n) → ((n : ℕ) → Q n → P n) → IsLeastIfAny P least → IsLeastIfAny Q least
  least_same None there back none = λ n q. none n (back n q)
  least_same (Some least) there back is = record { holds = there least is.holds; below = λ n q. is.below n (back n q) }

  -- one more number
  pub least_more : (least : Option ℕ) (other lower : ℕ) → ((n : ℕ) → P n → Q n) → Q other → ((n : ℕ) → Q n → P n ⊎ (n ≡ other)) → IsLeastIfAny P least → IsLower least other lower → IsLeastIfAny Q (Some lower)
  least_more None other lower there here back none l = record {
    holds = elim l.one [ inl is ↦ subst Q (sym is) here | inr bad ↦ absurd (let no_way : ⊥ = cc bad in no_way) ];
    below = λ n q. elim (back n q) [ inl old ↦ absurd (none n old) | inr is ↦ omega (arith, is, l.by_other) ];
  }
  least_more (Some least) other lower there here back is l = record {
    holds = elim l.one [
      | inl same ↦ subst Q (sym same) here
      | inr kept ↦ (let same : least ≡ lower = cc kept in subst Q same (there least is.holds))
    ];
    below = λ n q. elim (back n q) [
      | inl old ↦ (let low = is.below n old in let by = l.by_least least refl in omega (arith, low, by))
      | inr same ↦ omega (arith, same, l.by_other)
    ];
  }

pub least_none : (P : ℕ → Type 0) → ((n : ℕ) → P n → ⊥) → IsLeastIfAny P None
least_none P none = none

-- one more edge
module _ (done : List (ℕ × ℕ)) (e : ℕ × ℕ) (ranks : List ℕ) (least : Option ℕ) (so_far : IsLeastIfAny (LeadsLevel done ranks) least) where
  abbrev level_before : ℕ → Type 0
  level_before = LeadsLevel done ranks

  abbrev level_after : ℕ → Type 0
  level_after = LeadsLevel (done ++ e ∷ []) ranks

  level_there : (n : ℕ) → level_before n → level_after n
  level_there n p = (p.0, has_left done (e ∷ []) (n, p.0) p.1, p.2)

  pub level_more : get_or ranks e.0 0 ≡ get_or ranks e.1 0 → (lower : ℕ) → IsLower least e.0 lower → IsLeastIfAny level_after (Some lower)
  level_more level lower low =
      let here : level_after e.0 = (e.1, has_last done e, level) in
      let back : (n : ℕ) → level_after n → level_before n ⊎ (n ≡ e.0) = λ n q. elim (has_pushed done e (n, q.0) q.1) [
        | inl old ↦ inl (q.0, old, q.2)
        | inr is ↦ inr (ap (λ (p : ℕ × ℕ). p.0) is)
      ] in
      least_more level_before level_after least e.0 lower level_there here back so_far low

  pub level_same : (get_or ranks e.0 0 ≡ get_or ranks e.1 0 → ⊥) → IsLeastIfAny level_after least
  level_same uneven =
      let back : (n : ℕ) → level_after n → level_before n = λ n q. elim (has_pushed done e (n, q.0) q.1) [
        | inl old ↦ (q.0, old, q.2)
        | inr is ↦ absurd (uneven (subst (λ (p : ℕ × ℕ). get_or ranks p.0 0 ≡ get_or ranks p.1 0) is q.2))
      ] in
      least_same level_before level_after least level_there back so_far

-- one more node, with its distance
module _ (done : List ℕ) (node : ℕ) (distances : List (Option ℕ)) (least : Option ℕ) (so_far : IsLeastIfAny (IsDistanceOf done distances) least) where
  abbrev near_before : ℕ → Type 0
  near_before = IsDistanceOf done distances

  abbrev near_after : ℕ → Type 0
  near_after = IsDistanceOf (done ++ node ∷ []) distances

  near_there : (d : ℕ) → near_before d → near_after d
  near_there d p = (p.0, has_left done (node ∷ []) p.0 p.1, p.2)

  pub near_more : (d lower : ℕ) → IsAt distances node d → IsLower least d lower → IsLeastIfAny near_after (Some lower)
  near_more d lower at low =
      let here : near_after d = (node, has_last done node, at) in
      let back : (n : ℕ) → near_after n → near_before n ⊎ (n ≡ d) = λ n q. elim (has_pushed done node q.0 q.1) [
        | inl old ↦ inl (q.0, old, q.2)
        | inr is ↦ inr (one n d (subst (λ (k : ℕ). IsAt distances k n) is q.2) at)
      ] in
      least_more near_before near_after least d lower near_there here back so_far low
    where
      one : (n d : ℕ) → IsAt distances node n → IsAt distances node d → n ≡ d
      one n d at_n at_d = let both : Some (Some n) ≡ Some (Some d) = sym at_n ∙ at_d in cc both

  pub near_same : ((d : ℕ) → IsAt distances node d → ⊥) → IsLeastIfAny near_after least
  near_same far =
      let back : (n : ℕ) → near_after n → near_before n = λ n q. elim (has_pushed done node q.0 q.1) [
        | inl old ↦ (q.0, old, q.2)
        | inr is ↦ absurd (far n (subst (λ (k : ℕ). IsAt distances k n) is q.2))
      ] in
      least_same near_before near_after least near_there back so_far

-- one more node, which has the distance or not
module _ (done : List ℕ) (node : ℕ) (distances : List (Option ℕ)) (distance : ℕ) (least : Option ℕ) (so_far : IsLeastIfAny (IsListedAt done distances distance) least) where
  abbrev listed_before : ℕ → Type 0
  listed_before = IsListedAt done distances distance

  abbrev listed_after : ℕ → Type 0
  listed_after = IsListedAt (done ++ node ∷ []) distances distance

  listed_there : (n : ℕ) → listed_before n → listed_after n
  listed_there n p = (has_left done (node ∷ []) n p.0, p.1)

  pub listed_more : (lower : ℕ) → IsAt distances node distance → IsLower least node lower → IsLeastIfAny listed_after (Some lower)
  listed_more lower at low =
      let here : listed_after node = (has_last done node, at) in
      let back : (n : ℕ) → listed_after n → listed_before n ⊎ (n ≡ node) = λ n q. elim (has_pushed done node n q.0) [ inl old ↦ inl (old, q.1) | inr is ↦ inr is ] in
      least_more listed_before listed_after least node lower listed_there here back so_far low

  pub listed_same : (IsAt distances node distance → ⊥) → IsLeastIfAny listed_after least
  listed_same other =
      let back : (n : ℕ) → listed_after n → listed_before n = λ n q. elim (has_pushed done node n q.0) [
        | inl old ↦ (old, q.1)
        | inr is ↦ absurd (other (subst (λ (k : ℕ). IsAt distances k distance) is q.1))
      ] in
      least_same listed_before listed_after least listed_there back so_far

-- a distance, read
pub at_read : (distances : List (Option ℕ)) (node d : ℕ) (default : Option ℕ) → node < length distances → get_or distances node default ≡ Some d → IsAt distances node d
at_read distances node d default within is = slice_get-get_or distances node default within ∙ ap Some is

pub read_at : (distances : List (Option ℕ)) (node d : ℕ) (default : Option ℕ) → IsAt distances node d → get_or distances node default ≡ Some d
read_at distances node d default at = get_or_from_slice_get distances node (Some d) default at

-- what stands at a place below the length is within
pub listed_within : (nodes : List ℕ) (i n : ℕ) → i < length nodes → ((node : ℕ) → Has nodes node → node < n) → get_or nodes i 0 < n
listed_within nodes i n low known = known (get_or nodes i 0) (has_at nodes i (get_or nodes i 0) (slice_get-get_or nodes i 0 low))

-- an option is compared with a value
pub eq_same : (read : Option ℕ) (d : ℕ) (b : Bool) → b ≡ option_eq ◌==◌ read (Some d) → b ≡ true → read ≡ Some d
eq_same None d b is so = absurd (let bad : false ≡ true = sym is ∙ so in let no_way : ⊥ = cc bad in no_way)
eq_same (Some e) d b is so =
    let test : (e == d) ≡ true = sym is ∙ so in
    let same : e ≡ d = grind (arith, nat_tests) in
    ap Some same

pub eq_other : (read : Option ℕ) (d : ℕ) (b : Bool) → b ≡ option_eq ◌==◌ read (Some d) → b ≡ false → read ≡ Some d → ⊥
eq_other None d b is so same = let no_way : ⊥ = cc same in no_way
eq_other (Some e) d b is so same =
    let test : (e == d) ≡ false = sym is ∙ so in
    let equal : e ≡ d = cc same in
    let both : (d == d) ≡ false = subst (λ (n : ℕ). (n == d) ≡ false) equal test in
    absurd (grind (arith, nat_tests))
