-- Kinds in the order in which they were met, their numbers, and links between them.
use Rattle.std.proofs.Common.{◌≡◌, ◌≢◌, ◌<◌, ◌≤◌, ◌+◌, ◌⊎◌, inl, inr, ℕ, List, [], ◌∷◌, ◌++◌, Bool, true, false, not, nat_lt, nat_eq, cond, ◌&&◌, Option, Some, None, MatchOption, length, get_or, slice_get, position, refl, sym, ◌∙◌, ap, subst, arith, if◌then◌else◌}
use Rattle.std.specs.List.{Contains, IsDistinct, list_any, position_or_len}
use Rattle.std.proofs.lemmas.Bool.{and_parts, cases_lt, cases_eq}
use Rattle.std.proofs.lemmas.Bool.Decides.{nat_tests}
use Rattle.std.proofs.lemmas.List.{get_or_append_left, get_or_push, length_push}
use Rattle.std.proofs.lemmas.List.Elements.{Contains-append_left, Contains-push_cases}
use Rattle.std.proofs.lemmas.List.Sums.{fails_before_first, prefix_len_stops}
use Rattle.std.proofs.lemmas.Map.Keys.{apart_from_distinct}
use Rattle.std.proofs.lemmas.Option.{slice_get_within, get_or_from_slice_get}
use Rattle.indexmap.specs.IndexSet.{insert_key}
use Rattle.indexmap.proofs.CallerLemmas.{Contains-insert_key}
use Rattle.matching.specs.Bipartite.{AreApart}
use Rattle.place_match.specs.Tables.{AreNumbers, AreLinks, IsLink, IsNoLink}

pub nat_same : (m n : ℕ) → nat_eq m n ≡ true → m ≡ n
nat_same m n e = grind (arith, nat_tests)

nat_itself : (m n : ℕ) → m ≡ n → nat_eq n m ≡ true
nat_itself m n e = grind (arith, nat_tests)

-- different keys stand apart
pub apart_keys : (keys : List ℕ) → IsDistinct nat_eq keys → AreApart keys
apart_keys keys distinct i j less inside same =
    let differ : nat_eq (get_or keys i 0) (get_or keys j 0) ≡ false = apart_from_distinct nat_eq keys i j 0 distinct less inside in
    let equal : nat_eq (get_or keys i 0) (get_or keys j 0) ≡ true = nat_itself (get_or keys j 0) (get_or keys i 0) (sym same) in
    absurd (let bad : ⊥ = cc (differ, equal) in bad)

-- of numbers that stand apart each has one place
one_place : (keys : List ℕ) (i j : ℕ) → AreApart keys → i < length keys → j < length keys → get_or keys i 0 ≡ get_or keys j 0 → i ≡ j
one_place keys i j apart i_in j_in same = elim (cases_eq i j) [
  | inl e ↦ e
  | inr ne ↦ elim (cases_lt i j) [
    | inl less ↦ absurd (apart i j less j_in same)
    | inr more ↦ absurd (let less : j < i = omega arith in apart j i less i_in (sym same))
  ]
]

module _ {X : Type 0} (eq : X → X → Bool) (keys : List X) (key : X) where
  pub insert_cases : (insert_key eq keys key ≡ keys) ⊎ (insert_key eq keys key ≡ keys ++ key ∷ [])
  insert_cases = by (list_any (eq key) keys)
    where
      by : (b : Bool) → ((if b then keys else keys ++ key ∷ []) ≡ keys) ⊎ ((if b then keys else keys ++ key ∷ []) ≡ keys ++ key ∷ [])
      by true = inl refl
      by false = inr refl

  pub insert_keeps : (x : X) → Contains keys x → Contains (insert_key eq keys key) x
  insert_keeps x there = elim insert_cases [
    | inl same ↦ subst (λ ks. Contains ks x) (sym same) there
    | inr more ↦ subst (λ ks. Contains ks x) (sym more) (Contains-append_left keys (key ∷ []) x there)
  ]

  pub insert_back : (x : X) → Contains (insert_key eq keys key) x → Contains keys x ⊎ (key ≡ x)
  insert_back x there = elim insert_cases [
    | inl same ↦ inl (subst (λ ks. Contains ks x) same there)
    | inr more ↦ Contains-push_cases keys key x (subst (λ ks. Contains ks x) more there)
  ]

-- a key keeps its place when another is inserted
keeps_place : (keys : List ℕ) (key i : ℕ) → i < length keys →
    (i < length (insert_key nat_eq keys key)) × (get_or (insert_key nat_eq keys key) i 0 ≡ get_or keys i 0)
keeps_place keys key i inside = elim (insert_cases nat_eq keys key) [
  | inl same ↦ rw same (inside, refl)
  | inr more ↦ rw more (omega (arith, length_push keys key), get_or_append_left keys (key ∷ []) 0 i inside)
]

one_more_key : (keys : List ℕ) (key : ℕ) → length (insert_key nat_eq keys key) ≤ length keys + 1
one_more_key keys key = elim (insert_cases nat_eq keys key) [
  | inl same ↦ rw same (omega arith)
  | inr more ↦ rw more (omega (arith, length_push keys key))
]

-- one more entry of the list is numbered
pub numbered_more : (list : List ℕ) (count : ℕ) (kinds kinds' numbers : List ℕ) (kind key number : ℕ) → AreNumbers list count kinds numbers →
    kinds' ≡ insert_key nat_eq kinds kind → IsDistinct nat_eq kinds' → slice_get kinds' number ≡ Some key → nat_eq kind key ≡ true → kind ≡ get_or list count 0 →
    AreNumbers list (count + 1) kinds' (numbers ++ number ∷ [])
numbered_more list count kinds kinds' numbers kind key number a grown distinct at same is =
    let inside : number < length kinds' = slice_get_within kinds' number key at in
    let read : get_or kinds' number 0 ≡ get_or list count 0 = get_or_from_slice_get kinds' number key 0 at ∙ (sym (nat_same kind key same) ∙ is) in
    let size = length_push numbers number in
    let old : (k : ℕ) → k < count → get_or (numbers ++ number ∷ []) k 0 ≡ get_or numbers k 0 = λ k h. get_or_append_left numbers (number ∷ []) 0 k (omega (arith, a.each)) in
    let new : (k : ℕ) → k ≡ count → get_or (numbers ++ number ∷ []) k 0 ≡ number = λ k e. get_or_push numbers number 0 k (a.each ∙ sym e) in
    let stays : (k : ℕ) → k < count → (get_or numbers k 0 < length kinds') × (get_or kinds' (get_or numbers k 0) 0 ≡ get_or kinds (get_or numbers k 0) 0) =
    λ k h. rw grown (keeps_place kinds kind (get_or numbers k 0) (a.within k h)) in
    record {
      each = omega (arith, size, a.each);
      within = λ k h. elim (cases_eq k count) [
        | inl e ↦ rw (new k e) inside
        | inr ne ↦ (let before : k < count = omega arith in rw (old k before) (stays k before).0)
      ];
      same = λ k h. elim (cases_eq k count) [
        | inl e ↦ rw (new k e, e) read
        | inr ne ↦ (let before : k < count = omega arith in rw (old k before) ((stays k before).1 ∙ a.same k before))
      ];
      few = rw grown (omega (arith, one_more_key kinds kind, a.few));
      apart = apart_keys kinds' distinct;
    }

-- what a look-up by key answers
pub finds : (keys : List ℕ) (x : ℕ) (r : Option ℕ) → r ≡ position (nat_eq x) keys →
    MatchOption r ((k : ℕ) → k < length keys → get_or keys k 0 ≢ x) (λ k. (k < length keys) × (get_or keys k 0 ≡ x))
finds keys x r e = rw e (by (nat_lt (position_or_len (nat_eq x) keys) (length keys)) refl)
  where
    stops : position_or_len (nat_eq x) keys < length keys → get_or keys (position_or_len (nat_eq x) keys) 0 ≡ x
    stops inside =
        let at = prefix_len_stops (λ y. not (nat_eq x y)) keys 0 inside in
        sym (nat_same x (get_or keys (position_or_len (nat_eq x) keys) 0) (true_of_not (nat_eq x (get_or keys (position_or_len (nat_eq x) keys) 0)) at))
      where
        true_of_not : (b : Bool) → not b ≡ false → b ≡ true
        true_of_not true e' = refl
        true_of_not false e' = cc

    by : (b : Bool) → nat_lt (position_or_len (nat_eq x) keys) (length keys) ≡ b →
        MatchOption (cond b (Some (position_or_len (nat_eq x) keys)) None) ((k : ℕ) → k < length keys → get_or keys k 0 ≢ x) (λ k. (k < length keys) × (get_or keys k 0 ≡ x))
    by true t = let inside : position_or_len (nat_eq x) keys < length keys = grind (arith, nat_tests, t) in (inside, stops inside)
    by false t = λ k k_in same.
        let past : length keys ≤ position_or_len (nat_eq x) keys = grind (arith, nat_tests, t) in
        let fails = fails_before_first (nat_eq x) keys k 0 (omega arith) in
        let passes = nat_itself (get_or keys k 0) x same in
        absurd (let bad : ⊥ = cc (fails, passes) in bad)

-- a pair of kinds has one link
one_link : (block_kinds site_kinds : List ℕ) (fit x y : ℕ × ℕ) → AreApart block_kinds → AreApart site_kinds → IsLink block_kinds site_kinds fit x →
    IsLink block_kinds site_kinds fit y → x ≡ y
one_link block_kinds site_kinds fit x y blocks_apart sites_apart a b =
    let first : x.0 ≡ y.0 = one_place block_kinds x.0 y.0 blocks_apart a.block_within b.block_within (a.block_kind ∙ sym b.block_kind) in
    let second : x.1 ≡ y.1 = one_place site_kinds x.1 y.1 sites_apart a.site_within b.site_within (a.site_kind ∙ sym b.site_kind) in
    ap (λ (m : ℕ). (m, x.1)) first ∙ ap (λ (n : ℕ). (y.0, n)) second

abbrev pub same_pair : ℕ × ℕ → ℕ × ℕ → Bool
same_pair x y = nat_eq x.0 y.0 && nat_eq x.1 y.1

pair_same : (x y : ℕ × ℕ) → same_pair x y ≡ true → x ≡ y
pair_same x y e =
    let both = and_parts (nat_eq x.0 y.0) (nat_eq x.1 y.1) e in
    ap (λ (m : ℕ). (m, x.1)) (nat_same x.0 y.0 both.0) ∙ ap (λ (n : ℕ). (y.0, n)) (nat_same x.1 y.1 both.1)

-- one more pair that has a link
pub links_more : (block_kinds site_kinds : List ℕ) (fits : List (ℕ × ℕ)) (count : ℕ) (links links' : List (ℕ × ℕ)) (fit link : ℕ × ℕ) → AreApart block_kinds → AreApart site_kinds → AreLinks block_kinds site_kinds fits count links →
    fit ≡ get_or fits count (0, 0) → IsLink block_kinds site_kinds fit link → links' ≡ insert_key same_pair links link → AreLinks block_kinds site_kinds fits (count + 1) links'
links_more block_kinds site_kinds fits count links links' fit link blocks_apart sites_apart a is mine grown = record {
  all = λ k other h that. elim (cases_eq k count) [
    | inl e ↦ (
        let fit_is : get_or fits k (0, 0) ≡ fit = ap (λ n. get_or fits n (0, 0)) e ∙ sym is in
        let that_fit : IsLink block_kinds site_kinds fit other = subst (λ f. IsLink block_kinds site_kinds f other) fit_is that in
        rw grown (subst (Contains (insert_key same_pair links link)) (one_link block_kinds site_kinds fit link other blocks_apart sites_apart mine that_fit) (Contains-insert_key same_pair pair_same links link)))
    | inr ne ↦ rw grown (insert_keeps same_pair links link other (a.all k other (omega arith) that))
  ];
  only = λ other there. elim (insert_back same_pair links link other (subst (λ ks. Contains ks other) grown there)) [
    | inl old ↦ (let was = a.only other old in (was.0, omega (arith, was.1), was.2))
    | inr e ↦ (count, omega arith, subst (λ f. IsLink block_kinds site_kinds f other) is (subst (IsLink block_kinds site_kinds fit) e mine))
  ];
}

-- one more pair that has none
pub no_link_more : (block_kinds site_kinds : List ℕ) (fits : List (ℕ × ℕ)) (count : ℕ) (links : List (ℕ × ℕ)) (fit : ℕ × ℕ) →
    AreLinks block_kinds site_kinds fits count links → fit ≡ get_or fits count (0, 0) → IsNoLink block_kinds site_kinds fit → AreLinks block_kinds site_kinds fits (count + 1) links
no_link_more block_kinds site_kinds fits count links fit a is none = record {
  all = λ k other h that. elim (cases_eq k count) [
    | inl e ↦ absurd (none other (subst (λ f. IsLink block_kinds site_kinds f other) (ap (λ n. get_or fits n (0, 0)) e ∙ sym is) that))
    | inr ne ↦ a.all k other (omega arith) that
  ];
  only = λ other there. let was = a.only other there in (was.0, omega (arith, was.1), was.2);
}
