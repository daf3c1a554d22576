-- One step of a search and of a move along the way out.
use Rattle.std.proofs.Common.{◌≡◌, ◌≢◌, ◌<◌, ◌≤◌, ◌+◌, ◌⊎◌, inl, inr, ℕ, List, [], ◌∷◌, ◌++◌, Bool, true, false, Option, Some, None, length, get_or, set, refl, sym, ◌∙◌, ap, subst, arith, get_or-set_other, get_or-set_same}
use Rattle.std.specs.Prelude.{Contains, IsSome, is_some}
use Rattle.std.proofs.Math.ListN.{length-set}
use Rattle.std.proofs.lemmas.Bool.{cases_lt, cases_eq}
use Rattle.std.proofs.lemmas.List.{get_or_append_left, get_or_push, get_or_past, length_push, set_comm, set-set}
use Rattle.std.proofs.lemmas.List.Elements.{Contains-append_left, Contains-push, Contains-get_or}
use Rattle.matching.specs.Bipartite.{Graph, GoTogether, IsPartial}
use Rattle.matching.specs.Inside.{AreOwners, IsTrail, IsReach, IsWayOut, IsLinked, Extends, row_at, right_at}
use Rattle.matching.proofs.Counting.{few_below, apart_push}

pub some_within : (xs : List (Option ℕ)) (k x : ℕ) → get_or xs k None ≡ Some x → k < length xs
some_within xs k x is = elim (cases_lt k (length xs)) [ inl h ↦ h | inr past ↦ absurd (let bad : ⊥ = cc (is, get_or_past xs k None past) in bad) ]

-- a search has no more left numbers than there are right ones, and one
pub room : (rows : List ℕ) (pairs : List (ℕ × ℕ)) (owner : List (Option ℕ)) (lefts rights from : List ℕ) → IsTrail rows pairs owner lefts rights from →
    length lefts ≤ length owner + 1
room rows pairs owner lefts rights from t =
    omega (arith, t.one_more, few_below (length owner) rights t.apart (λ k h. some_within owner (get_or rights k 0) (get_or lefts (k + 1) 0) (t.owned k h)))

pub extends_push : (old new : List ℕ) (x : ℕ) → Extends old new → Extends old (new ++ x ∷ [])
extends_push old new x e = record {
  longer = omega (arith, e.longer, length_push new x);
  same = λ k h. let inside : k < length new = omega (arith, e.longer) in get_or_append_left new (x ∷ []) 0 k inside ∙ e.same k h;
}

-- one more right number is reached
pub trail_more : (rows : List ℕ) (pairs : List (ℕ × ℕ)) (owner : List (Option ℕ)) (lefts rights from : List ℕ) (right left at : ℕ) →
    IsTrail rows pairs owner lefts rights from → left < length rows → get_or owner right None ≡ Some left → at < length lefts →
    Contains {X = ℕ × ℕ} pairs (get_or rows (get_or lefts at 0) 0, right) → ((k : ℕ) → k < length rights → get_or rights k 0 ≢ right) →
    IsTrail rows pairs owner (lefts ++ left ∷ []) (rights ++ right ∷ []) (from ++ at ∷ [])
trail_more rows pairs owner lefts rights from right left at t left_in owned at_in pair fresh =
    let more_lefts = length_push lefts left in
    let more_rights = length_push rights right in
    let more_from = length_push from at in
    let old_left : (k : ℕ) → k < length lefts → get_or (lefts ++ left ∷ []) k 0 ≡ get_or lefts k 0 = λ k h. get_or_append_left lefts (left ∷ []) 0 k h in
    let new_left : (k : ℕ) → length lefts ≡ k → get_or (lefts ++ left ∷ []) k 0 ≡ left = λ k e. get_or_push lefts left 0 k e in
    let old_right : (k : ℕ) → k < length rights → get_or (rights ++ right ∷ []) k 0 ≡ get_or rights k 0 = λ k h. get_or_append_left rights (right ∷ []) 0 k h in
    let new_right : (k : ℕ) → length rights ≡ k → get_or (rights ++ right ∷ []) k 0 ≡ right = λ k e. get_or_push rights right 0 k e in
    let old_from : (k : ℕ) → k < length from → get_or (from ++ at ∷ []) k 0 ≡ get_or from k 0 = λ k h. get_or_append_left from (at ∷ []) 0 k h in
    let new_from : (k : ℕ) → length from ≡ k → get_or (from ++ at ∷ []) k 0 ≡ at = λ k e. get_or_push from at 0 k e in
    record {
      one_more = omega (arith, t.one_more, more_lefts, more_rights);
      origins = omega (arith, t.origins, more_from, more_rights);
      within = λ k h. elim (cases_eq (length lefts) k) [
        | inl e ↦ rw (new_left k e) left_in
        | inr ne ↦ (let old : k < length lefts = omega arith in rw (old_left k old) (t.within k old))
      ];
      owned = λ k h. elim (cases_eq (length rights) k) [
        | inl e ↦ (let last : length lefts ≡ k + 1 = omega (arith, t.one_more) in rw (new_right k e, new_left (k + 1) last) owned)
        | inr ne ↦ (let old : k < length rights = omega arith in let next : k + 1 < length lefts = omega (arith, t.one_more) in
            rw (old_right k old, old_left (k + 1) next) (t.owned k old))
      ];
      earlier = λ k h. elim (cases_eq (length rights) k) [
        | inl e ↦ (let last : length from ≡ k = omega (arith, t.origins) in rw (new_from k last) (omega (arith, t.one_more)))
        | inr ne ↦ (let old : k < length rights = omega arith in let old' : k < length from = omega (arith, t.origins) in
            rw (old_from k old') (t.earlier k old))
      ];
      joined = λ k h. elim (cases_eq (length rights) k) [
        | inl e ↦ (let last : length from ≡ k = omega (arith, t.origins) in
            rw (new_from k last, new_right k e, old_left at at_in) pair)
        | inr ne ↦ (let old : k < length rights = omega arith in let old' : k < length from = omega (arith, t.origins) in
            let before : get_or from k 0 < length lefts = omega (arith, t.earlier k old, t.one_more) in
            rw (old_from k old', old_right k old, old_left (get_or from k 0) before) (t.joined k old))
      ];
      apart = apart_push rights right t.apart fresh;
    }

-- what is marked, after one more right number is reached and before its owner is added
pub reach_half : (rows : List ℕ) (count : ℕ) (lefts rights : List ℕ) (seen : List Bool) (right : ℕ) → IsReach rows count lefts rights seen → right < count →
    IsReach rows count lefts (rights ++ right ∷ []) (set seen right true)
reach_half rows count lefts rights seen right r inside =
    let there : right < length seen = omega (arith, r.marks) in
    record {
      lefts_within = r.lefts_within;
      rights_within = λ k h. elim (cases_eq (length rights) k) [
        | inl e ↦ rw (get_or_push rights right 0 k e) inside
        | inr ne ↦ (let old : k < length rights = omega (arith, length_push rights right) in rw (get_or_append_left rights (right ∷ []) 0 k old) (r.rights_within k old))
      ];
      marks = length-set seen right true ∙ r.marks;
      reached = λ q is. elim (cases_eq q right) [
        | inl same ↦ subst (Contains (rights ++ right ∷ [])) (sym same) (Contains-push rights right)
        | inr other ↦ Contains-append_left rights (right ∷ []) q (r.reached q (sym (get_or-set_other seen right q true false other) ∙ is))
      ];
      marked = λ k h. elim (cases_eq (length rights) k) [
        | inl e ↦ rw (get_or_push rights right 0 k e, get_or-set_same seen right true false there) refl
        | inr ne ↦ (let old : k < length rights = omega (arith, length_push rights right) in
            rw (get_or_append_left rights (right ∷ []) 0 k old) (still seen right (get_or rights k 0) there (r.marked k old)))
      ];
    }
  where
    still : (seen : List Bool) (i q : ℕ) → i < length seen → get_or seen q false ≡ true → get_or (set seen i true) q false ≡ true
    still seen i q there is = elim (cases_eq q i) [
      | inl same ↦ rw (same, get_or-set_same seen i true false there) refl
      | inr other ↦ get_or-set_other seen i q true false other ∙ is
    ]

pub reach_more : (rows : List ℕ) (count : ℕ) (lefts rights : List ℕ) (seen : List Bool) (left : ℕ) → IsReach rows count lefts rights seen → left < length rows →
    IsReach rows count (lefts ++ left ∷ []) rights seen
reach_more rows count lefts rights seen left r inside = record {
  lefts_within = λ k h. elim (cases_eq (length lefts) k) [
    | inl e ↦ rw (get_or_push lefts left 0 k e) inside
    | inr ne ↦ (let old : k < length lefts = omega (arith, length_push lefts left) in rw (get_or_append_left lefts (left ∷ []) 0 k old) (r.lefts_within k old))
  ];
  rights_within = r.rights_within;
  marks = r.marks;
  reached = r.reached;
  marked = r.marked;
}

-- the pairs of the row in front of the next one
pub passed_more : (pairs : List (ℕ × ℕ)) (head next : List ℕ) (seen : List Bool) (row pair after : ℕ) → IsLinked pairs head next → pair < length pairs →
    row_at pairs pair ≡ row → after ≡ get_or next pair 0 → ((k : ℕ) → k < pair → row_at pairs k ≡ row → get_or seen (right_at pairs k) false ≡ true) →
    get_or seen (right_at pairs pair) false ≡ true → (k : ℕ) → k < after → row_at pairs k ≡ row → get_or seen (right_at pairs k) false ≡ true
passed_more pairs head next seen row pair after linked inside here is before marked k less of_row =
    elim (cases_lt k pair) [
      | inl earlier ↦ before k earlier of_row
      | inr not_earlier ↦ elim (cases_eq k pair) [
        | inl same ↦ subst (λ (n : ℕ). get_or seen (right_at pairs n) false ≡ true) (sym same) marked
        | inr later ↦ absurd ((linked.nexts pair inside).none k (omega arith) (omega arith) (of_row ∙ sym here))
      ]
    ]

set_cases : (xs : List (Option ℕ)) (i j : ℕ) (y : Option ℕ) → i < length xs →
    ((j ≡ i) × (get_or (set xs i y) j None ≡ y)) ⊎ ((j ≢ i) × (get_or (set xs i y) j None ≡ get_or xs j None))
set_cases xs i j y inside = elim (cases_eq j i) [
  | inl same ↦ inl (same, rw (same, get_or-set_same xs i y None inside) refl)
  | inr other ↦ inr (other, get_or-set_other xs i j y None other)
]

-- a left number that isn't placed is put on a right number that nobody has
pub put_more : (g : Graph) (place owner : List (Option ℕ)) (left right : ℕ) → IsPartial g place owner → GoTogether g left right → right < length owner →
    get_or place left None ≡ None → get_or owner right None ≡ None → IsPartial g (set place left (Some right)) (set owner right (Some left))
put_more g place owner left right p joined right_in unplaced free =
    let left_in : left < length place = omega (arith, p.lefts, joined.0) in
    record {
      lefts = length-set place left (Some right) ∙ p.lefts;
      joined = λ l r is. elim (set_cases place left l (Some right) left_in) [
        | inl here ↦ (let e : right ≡ r = cc (here.1, is) in subst (GoTogether g l) e (subst (λ n. GoTogether g n right) (sym here.0) joined))
        | inr other ↦ p.joined l r (sym other.1 ∙ is)
      ];
      owned = λ l r is. elim (set_cases place left l (Some right) left_in) [
        | inl here ↦ (let e : r ≡ right = cc (here.1, is) in rw (e, get_or-set_same owner right (Some left) None right_in) (ap Some (sym here.0)))
        | inr other ↦ (
            let was = p.owned l r (sym other.1 ∙ is) in
            elim (set_cases owner right r (Some left) right_in) [
              | inl same ↦ absurd (let bad : ⊥ = cc (was, same.0, free) in bad)
              | inr apart ↦ apart.1 ∙ was
            ])
      ];
      placed = λ l r is. elim (set_cases owner right r (Some left) right_in) [
        | inl here ↦ (let e : l ≡ left = cc (here.1, is) in rw (e, get_or-set_same place left (Some right) None left_in) (ap Some (sym here.0)))
        | inr other ↦ (
            let was = p.placed l r (sym other.1 ∙ is) in
            elim (set_cases place left l (Some right) left_in) [
              | inl same ↦ absurd (let bad : ⊥ = cc (was, same.0, unplaced) in bad)
              | inr apart ↦ apart.1 ∙ was
            ])
      ];
    }

-- a left number gives up its right number
pub taken_off : (g : Graph) (place owner : List (Option ℕ)) (left behind : ℕ) → IsPartial g place owner → get_or owner behind None ≡ Some left →
    IsPartial g (set place left None) (set owner behind None)
taken_off g place owner left behind p owned =
    let was = p.placed left behind owned in
    let left_in : left < length place = some_within place left behind was in
    let behind_in : behind < length owner = some_within owner behind left owned in
    record {
      lefts = length-set place left None ∙ p.lefts;
      joined = λ l r is. elim (set_cases place left l None left_in) [
        | inl here ↦ absurd (let bad : ⊥ = cc (here.1, is) in bad)
        | inr other ↦ p.joined l r (sym other.1 ∙ is)
      ];
      owned = λ l r is. elim (set_cases place left l None left_in) [
        | inl here ↦ absurd (let bad : ⊥ = cc (here.1, is) in bad)
        | inr other ↦ (
            let had = p.owned l r (sym other.1 ∙ is) in
            elim (set_cases owner behind r None behind_in) [
              | inl same ↦ absurd (other.0 (let e : l ≡ left = cc (had, same.0, owned) in e))
              | inr apart ↦ apart.1 ∙ had
            ])
      ];
      placed = λ l r is. elim (set_cases owner behind r None behind_in) [
        | inl here ↦ absurd (let bad : ⊥ = cc (here.1, is) in bad)
        | inr other ↦ (
            let had = p.placed l r (sym other.1 ∙ is) in
            elim (set_cases place left l None left_in) [
              | inl same ↦ absurd (other.0 (let e : r ≡ behind = cc (had, same.0, was) in e))
              | inr apart ↦ apart.1 ∙ had
            ])
      ];
    }

-- the moves along the way out, with `right` free for the left number at place `at`
pub record IsShifting (rows : List ℕ) (pairs : List (ℕ × ℕ)) (held first place owner : List (Option ℕ)) (lefts rights : List ℕ) (right at : ℕ) : Type 0 where
  pub partial : IsPartial (record { rows = rows; pairs = pairs }) place owner
  pub out : IsWayOut rows pairs owner lefts right at
  pub rest : (k : ℕ) → k < at → get_or owner (get_or rights k 0) None ≡ Some (get_or lefts (k + 1) 0)
  pub begin : get_or place (get_or lefts 0 0) None ≡ None
  pub same : (l : ℕ) → is_some (get_or place l None) ≡ is_some (get_or first l None)
  pub owners : (r : ℕ) → IsSome (get_or held r None) → (r ≡ right) ⊎ IsSome (get_or owner r None)

-- a right number is given to a left one
owned_on : (owner : List (Option ℕ)) (right left r : ℕ) → right < length owner → (r ≡ right) ⊎ IsSome (get_or owner r None) →
    IsSome (get_or (set owner right (Some left)) r None)
owned_on owner right left r inside had = elim (set_cases owner right r (Some left) inside) [
  | inl here ↦ rw here.1 refl
  | inr other ↦ rw other.1 (elim had [ inl same ↦ absurd (other.0 same) | inr some ↦ some ])
]

pub shift_more : (rows : List ℕ) (pairs : List (ℕ × ℕ)) (old first place owner : List (Option ℕ)) (lefts rights from : List ℕ) (right at left behind next k : ℕ) →
    IsTrail rows pairs old lefts rights from → IsShifting rows pairs old first place owner lefts rights right at → at ≡ k + 1 →
    left ≡ get_or lefts at 0 → behind ≡ get_or rights k 0 → next ≡ get_or from k 0 →
    IsShifting rows pairs old first (set place left (Some right)) (set (set owner right (Some left)) behind None) lefts rights behind next
shift_more rows pairs old first place owner lefts rights from right at left behind next k t s at_is left_is behind_is next_is =
    let g : Graph = record { rows = rows; pairs = pairs } in
    let k_in : k < length rights = omega (arith, s.out.place, t.one_more) in
    let was : get_or owner behind None ≡ Some left =
    ap (λ n. get_or owner n None) behind_is ∙ (s.rest k (omega arith) ∙ ap Some (ap (λ n. get_or lefts n 0) (sym at_is) ∙ sym left_is)) in
    let placed : get_or place left None ≡ Some behind = s.partial.placed left behind was in
    let left_in : left < length place = some_within place left behind placed in
    let behind_in : behind < length owner = some_within owner behind left was in
    let apart : right ≢ behind = λ e. absurd (let bad : ⊥ = cc (was, e, s.out.free) in bad) in
    let flipped : behind ≢ right = λ e. apart (sym e) in
    let joined : GoTogether g left right = (
      subst (λ n. n < length rows) (sym left_is) (t.within at s.out.place),
      subst (λ n. Contains {X = ℕ × ℕ} pairs (get_or rows n 0, right)) (sym left_is) s.out.joined,
    ) in
    let off = taken_off g place owner left behind s.partial was in
    let on = put_more g (set place left None) (set owner behind None) left right off joined
    (omega (arith, length-set owner behind None, s.out.within)) (get_or-set_same place left None None left_in)
    (get_or-set_other owner behind right None None apart ∙ s.out.free) in
    let behind_free : get_or (set (set owner right (Some left)) behind None) behind None ≡ None =
    get_or-set_same (set owner right (Some left)) behind None None (omega (arith, length-set owner right (Some left), behind_in)) in
    record {
      partial = subst (λ o. IsPartial g (set place left (Some right)) o) (set_comm owner behind right None (Some left) flipped)
          (subst (λ p. IsPartial g p (set (set owner behind None) right (Some left))) (set-set place left None (Some right)) on);
      out = record {
        within = omega (arith, behind_in, length-set owner right (Some left), length-set (set owner right (Some left)) behind None);
        free = behind_free;
        place = omega (arith, next_is, t.earlier k k_in, t.one_more);
        joined = subst (λ n. Contains {X = ℕ × ℕ} pairs (get_or rows (get_or lefts n 0) 0, behind)) (sym next_is)
            (subst (λ n. Contains {X = ℕ × ℕ} pairs (get_or rows (get_or lefts (get_or from k 0) 0) 0, n)) (sym behind_is) (t.joined k k_in));
      };
      rest = λ j h.
          let before : j < k = omega (arith, next_is, t.earlier k k_in) in
          let kept = s.rest j (omega arith) in
          let not_behind : get_or rights j 0 ≢ behind = λ e. t.apart j k before k_in (e ∙ behind_is) in
          let not_right : get_or rights j 0 ≢ right = λ e. absurd (let bad : ⊥ = cc (kept, e, s.out.free) in bad) in
          get_or-set_other (set owner right (Some left)) behind (get_or rights j 0) None None not_behind ∙
          (get_or-set_other owner right (get_or rights j 0) (Some left) None not_right ∙ kept);
      begin =
          let other : get_or lefts 0 0 ≢ left = λ e. absurd (let bad : ⊥ = cc (s.begin, e, placed) in bad) in
          get_or-set_other place left (get_or lefts 0 0) (Some right) None other ∙ s.begin;
      same = λ l. elim (set_cases place left l (Some right) left_in) [
        | inl here ↦ (let had : is_some (get_or place l None) ≡ true = ap is_some (ap (λ n. get_or place n None) here.0 ∙ placed) in
            ap is_some here.1 ∙ (sym had ∙ s.same l))
        | inr other ↦ ap is_some other.1 ∙ s.same l
      ];
      owners = λ r had. elim (cases_eq r behind) [
        | inl same ↦ inl same
        | inr apart ↦ inr (rw (get_or-set_other (set owner right (Some left)) behind r None None apart)
            (owned_on owner right left r s.out.within (s.owners r had)))
      ];
    }

pub extends_then : (old mid new : List ℕ) → Extends old mid → Extends mid new → Extends old new
extends_then old mid new a b = record {
  longer = omega (arith, a.longer, b.longer);
  same = λ k h. let inside : k < length mid = omega (arith, a.longer) in b.same k inside ∙ a.same k h;
}

-- the rows of the first left numbers were gone through, and now the row of one more
pub passed_then : (rows lefts lefts' : List ℕ) (scanned scanned' : List Bool) (at : ℕ) → Extends lefts lefts' → at < length lefts →
    ((k : ℕ) → k < at → get_or scanned (get_or rows (get_or lefts k 0) 0) false ≡ true) →
    ((row : ℕ) → get_or scanned row false ≡ true → get_or scanned' row false ≡ true) → get_or scanned' (get_or rows (get_or lefts at 0) 0) false ≡ true →
    (k : ℕ) → k < at + 1 → get_or scanned' (get_or rows (get_or lefts' k 0) 0) false ≡ true
passed_then rows lefts lefts' scanned scanned' at e inside before kept here k less =
    let k_in : k < length lefts = omega arith in
    rw (e.same k k_in)
    (elim (cases_eq k at) [
      | inl same ↦ subst (λ (n : ℕ). get_or scanned' (get_or rows (get_or lefts n 0) 0) false ≡ true) (sym same) here
      | inr earlier ↦ kept (get_or rows (get_or lefts k 0) 0) (before k (omega arith))
    ])

-- what isn't marked wasn't reached
pub fresh : (rows : List ℕ) (count : ℕ) (lefts rights : List ℕ) (seen : List Bool) (right : ℕ) → IsReach rows count lefts rights seen →
    get_or seen right false ≡ false → (k : ℕ) → k < length rights → get_or rights k 0 ≢ right
fresh rows count lefts rights seen right r unmarked k inside e = absurd (let bad : ⊥ = cc (r.marked k inside, e, unmarked) in bad)

-- what a pair of the row holds
pub joined_pair : (pairs : List (ℕ × ℕ)) (row k : ℕ) (p : ℕ × ℕ) → p ≡ get_or pairs k (0, 0) → k < length pairs → row_at pairs k ≡ row →
    Contains {X = ℕ × ℕ} pairs (row, p.1)
joined_pair pairs row k p is inside of_row =
    subst (λ n. Contains {X = ℕ × ℕ} pairs (n, p.1)) (ap (λ (q : ℕ × ℕ). q.0) is ∙ of_row)
    (subst (Contains {X = ℕ × ℕ} pairs) (sym is) (Contains-get_or pairs k (0, 0) inside))

-- the right number of a pair of the row is reached, and its owner is added
pub trail_reaches : (rows : List ℕ) (pairs : List (ℕ × ℕ)) (owner : List (Option ℕ)) (count : ℕ) (lefts rights from : List ℕ) (seen : List Bool) (pair left at : ℕ) (p : ℕ × ℕ) →
    IsTrail rows pairs owner lefts rights from → IsReach rows count lefts rights seen → AreOwners rows owner → at < length lefts → pair < length pairs →
    row_at pairs pair ≡ get_or rows (get_or lefts at 0) 0 → p ≡ get_or pairs pair (0, 0) → get_or owner p.1 None ≡ Some left → get_or seen p.1 false ≡ false →
    IsTrail rows pairs owner (lefts ++ left ∷ []) (rights ++ p.1 ∷ []) (from ++ at ∷ [])
trail_reaches rows pairs owner count lefts rights from seen pair left at p t r owners at_in pair_in of_row is owned unmarked =
    trail_more rows pairs owner lefts rights from p.1 left at t (owners p.1 left owned) owned at_in
    (joined_pair pairs (get_or rows (get_or lefts at 0) 0) pair p is pair_in of_row) (fresh rows count lefts rights seen p.1 r unmarked)
