-- What holds of the fields of a matching after each call.
use Rattle.std.proofs.Common.{◌≡◌, ◌≢◌, ◌<◌, ◌≤◌, ◌+◌, ◌-◌, ◌⊎◌, ◌^◌, inl, inr, ℕ, List, [], ◌∷◌, ◌++◌, Bool, false, Option, Some, None, length, get_or, set, take, drop, map, replicate, append-nil, refl, sym, ◌∙◌, ap, subst, arith, get_or-set_same, get_or-set_other}
use Rattle.std.specs.Prelude.{All, Contains}
use Rattle.std.proofs.Math.ListN.{length-set, length-replicate}
use Rattle.std.proofs.lemmas.Bool.{cases_lt, cases_eq}
use Rattle.std.proofs.lemmas.List.{get_or_default, get_or_past, get_or-replicate, get_or-map, take_all, drop_all, length-map}
use Rattle.matching.specs.Bipartite.{Graph, AreApart, GoTogether, IsPartial, IsPlacing, IsViolator, HasNoPlacing}
use Rattle.matching.specs.Inside.{AreRows, AreCursors, AreClear, IsSoundMatching, IsLinked, IsTrail, IsReach, IsCovered, AreOwners, Extends, row_at, right_at}
use Rattle.matching.proofs.Counting.{no_more_than, place_in, contains_at}
use Rattle.matching.proofs.Steps.{put_more, taken_off, some_within}

-- a right number that a row is paired with is within bounds
pub right_within : (rows : List ℕ) (pairs : List (ℕ × ℕ)) (head next : List ℕ) (rights row right : ℕ) → AreRows rows pairs head next rights →
    Contains {X = ℕ × ℕ} pairs (row, right) → right < rights
right_within rows pairs head next rights row right r (k, inside, is) =
    let same : right_at pairs k ≡ right = ap (λ (p : ℕ × ℕ). p.1) (get_or_default pairs k (0, 0) (row, right) inside ∙ is) in
    subst (λ n. n < rights) same (r.rights_within k inside)

pub owners_within : (rows : List ℕ) (pairs : List (ℕ × ℕ)) (place owner : List (Option ℕ)) → IsPartial (record { rows = rows; pairs = pairs }) place owner → AreOwners rows owner
owners_within rows pairs place owner p r l is = (p.joined l r (p.placed l r is)).0

-- other places and owners, as many as before
pub placed_sound : (rows : List ℕ) (pairs : List (ℕ × ℕ)) (head next cursor : List ℕ) (place owner place' owner' : List (Option ℕ)) (seen scanned seen' scanned' : List Bool) →
    IsSoundMatching rows pairs head next cursor place owner seen scanned → IsPartial (record { rows = rows; pairs = pairs }) place' owner' → length owner' ≡ length owner →
    AreClear seen' (length seen) → AreClear scanned' (length scanned) → IsSoundMatching rows pairs head next cursor place' owner' seen' scanned'
placed_sound rows pairs head next cursor place owner place' owner' seen scanned seen' scanned' s partial same unseen unscanned = record {
  tied = subst (AreRows rows pairs head next) (sym same) s.tied;
  cursors = s.cursors;
  partial = partial;
  unseen = record { each = unseen.each ∙ (s.unseen.each ∙ sym same); clear = unseen.clear };
  unscanned = record { each = unscanned.each ∙ s.unscanned.each; clear = unscanned.clear };
}

pub put_sound : (rows : List ℕ) (pairs : List (ℕ × ℕ)) (head next cursor : List ℕ) (place owner : List (Option ℕ)) (seen scanned : List Bool) (left right : ℕ) →
    IsSoundMatching rows pairs head next cursor place owner seen scanned → GoTogether (record { rows = rows; pairs = pairs }) left right → get_or place left None ≡ None →
    get_or owner right None ≡ None → IsSoundMatching rows pairs head next cursor (set place left (Some right)) (set owner right (Some left)) seen scanned
put_sound rows pairs head next cursor place owner seen scanned left right s joined unplaced free =
    placed_sound rows pairs head next cursor place owner (set place left (Some right)) (set owner right (Some left)) seen scanned seen scanned s
    (put_more (record { rows = rows; pairs = pairs }) place owner left right s.partial joined
    (right_within rows pairs head next (length owner) (get_or rows left 0) right s.tied joined.1) unplaced free)
    (length-set owner right (Some left)) (record { each = refl; clear = s.unseen.clear }) (record { each = refl; clear = s.unscanned.clear })

pub taken_sound : (rows : List ℕ) (pairs : List (ℕ × ℕ)) (head next cursor : List ℕ) (place owner : List (Option ℕ)) (seen scanned : List Bool) (left right : ℕ) →
    IsSoundMatching rows pairs head next cursor place owner seen scanned → get_or place left None ≡ Some right →
    IsSoundMatching rows pairs head next cursor (set place left None) (set owner right None) seen scanned
taken_sound rows pairs head next cursor place owner seen scanned left right s placed =
    placed_sound rows pairs head next cursor place owner (set place left None) (set owner right None) seen scanned seen scanned s
    (taken_off (record { rows = rows; pairs = pairs }) place owner left right s.partial (s.partial.owned left right placed))
    (length-set owner right None) (record { each = refl; clear = s.unseen.clear }) (record { each = refl; clear = s.unscanned.clear })

-- a right number that a left one has is within bounds
pub right_of_within : (rows : List ℕ) (pairs : List (ℕ × ℕ)) (head next cursor : List ℕ) (place owner : List (Option ℕ)) (seen scanned : List Bool) (left right : ℕ) →
    IsSoundMatching rows pairs head next cursor place owner seen scanned → get_or place left None ≡ Some right → right < length owner
right_of_within rows pairs head next cursor place owner seen scanned left right s placed = some_within owner right left (s.partial.owned left right placed)

-- a row's cursor moves on to another pair of the row, or behind all pairs
pub cursor_moves : (pairs : List (ℕ × ℕ)) (cursor : List ℕ) (rows row pair : ℕ) → AreCursors pairs cursor rows → row < rows →
    (pair < length pairs → row_at pairs pair ≡ row) → AreCursors pairs (set cursor row pair) rows
cursor_moves pairs cursor rows row pair s row_in here = record {
  each = length-set cursor row pair ∙ s.each;
  here = λ other other_in. elim (cases_eq other row) [
    | inl same ↦ (let in_cursor : row < length cursor = omega (arith, s.each) in
        rw (same, get_or-set_same cursor row pair 0 in_cursor) here)
    | inr apart ↦ rw (get_or-set_other cursor row other pair 0 apart) (s.here other other_in)
  ];
}

-- other cursors
pub cursors_sound : (rows : List ℕ) (pairs : List (ℕ × ℕ)) (head next cursor cursor' : List ℕ) (place owner : List (Option ℕ)) (seen scanned : List Bool) (count : ℕ) →
    IsSoundMatching rows pairs head next cursor place owner seen scanned → count ≡ length head → AreCursors pairs cursor' count →
    IsSoundMatching rows pairs head next cursor' place owner seen scanned
cursors_sound rows pairs head next cursor cursor' place owner seen scanned count s same moved = record {
  tied = s.tied;
  cursors = subst (AreCursors pairs cursor') same moved;
  partial = s.partial;
  unseen = s.unseen;
  unscanned = s.unscanned;
}

-- a chain from the row's cursor stays in the row
pub free_row : (pairs : List (ℕ × ℕ)) (cursor : List ℕ) (rows row start pair : ℕ) → AreCursors pairs cursor rows → row < rows → start ≡ get_or cursor row 0 →
    start ≤ pair → (pair < length pairs → row_at pairs pair ≡ row_at pairs start) → pair < length pairs → row_at pairs pair ≡ row
free_row pairs cursor rows row start pair s row_in start_is onward chain inside =
    chain inside ∙ (ap (row_at pairs) start_is ∙ s.here row row_in (omega (arith, start_is)))

-- where nothing is placed
nothing : {X : Type 0} (n k : ℕ) (x d : X) → x ≡ d → get_or (replicate n x) k d ≡ d
nothing n k x d same = elim (cases_lt k n) [
  | inl inside ↦ get_or-replicate n k x d inside ∙ same
  | inr past ↦ get_or_past (replicate n x) k d (omega (arith, length-replicate n x))
]

pub new_sound : (rows : List ℕ) (pairs : List (ℕ × ℕ)) (head next : List ℕ) (row_count right_count : ℕ) → IsLinked pairs head next → length head ≡ row_count →
    All (λ row. row < row_count) rows → All (λ (p : ℕ × ℕ). (p.0 < row_count) × (p.1 < right_count)) pairs → length rows < 2 ^ 32 → IsSoundMatching rows pairs head next head (replicate (length rows) None) (replicate right_count None) (replicate right_count false) (replicate row_count false)
new_sound rows pairs head next row_count right_count linked heads rows_in pairs_in few_lefts =
    let none : (n k : ℕ) → get_or (replicate n None) k None ≡ None = λ n k. nothing {X = Option ℕ} n k None None refl in
    record {
      tied = record {
        linked = linked;
        rows_within = λ l h. omega (arith, rows_in l 0 h);
        rights_within = λ k h. omega (arith, (pairs_in k (0, 0) h).1, length-replicate {A = Option ℕ} right_count None);
        few_lefts = few_lefts;
      };
      cursors = record { each = refl; here = λ row h. (linked.heads row h).here };
      partial = record {
        lefts = length-replicate (length rows) None;
        joined = λ l r is. absurd (let bad : ⊥ = cc (is, none (length rows) l) in bad);
        owned = λ l r is. absurd (let bad : ⊥ = cc (is, none (length rows) l) in bad);
        placed = λ l r is. absurd (let bad : ⊥ = cc (is, none right_count r) in bad);
      };
      unseen = record {
        each = length-replicate right_count false ∙ sym (length-replicate {A = Option ℕ} right_count None);
        clear = λ k. nothing right_count k false false refl;
      };
      unscanned = record { each = length-replicate row_count false ∙ sym heads; clear = λ k. nothing row_count k false false refl };
    }

-- a slice of a whole `Vec`, written back
pub whole : {X : Type 0} (n : ℕ) (xs ys : List X) → length xs ≡ n → length ys ≡ n → take n (xs ++ drop (length xs) ys) ≡ xs
whole n xs ys size same =
    let none : drop (length xs) ys ≡ [] = drop_all (length xs) ys (omega arith) in
    rw (none, append-nil xs) (take_all n xs (omega arith))

apart_both : (xs : List ℕ) (i j : ℕ) → AreApart xs → i < length xs → j < length xs → i ≢ j → get_or xs i 0 ≢ get_or xs j 0
apart_both xs i j apart i_in j_in differ = elim (cases_lt i j) [
  | inl less ↦ apart i j less j_in
  | inr not_less ↦ (let more : j < i = omega arith in λ e. apart j i more i_in (sym e))
]

-- a search that is stuck has met left numbers that outnumber the right ones that go with them
pub stuck_violator : (rows : List ℕ) (pairs : List (ℕ × ℕ)) (count : ℕ) (place owner : List (Option ℕ)) (lefts rights from : List ℕ) (seen : List Bool) →
    IsTrail rows pairs owner lefts rights from → IsReach rows count lefts rights seen → IsPartial (record { rows = rows; pairs = pairs }) place owner →
    get_or place (get_or lefts 0 0) None ≡ None → ((k : ℕ) → k < length lefts → IsCovered pairs seen (get_or rows (get_or lefts k 0) 0)) →
    IsViolator (record { rows = rows; pairs = pairs }) lefts rights
stuck_violator rows pairs count place owner lefts rights from seen t r p begin covered = record {
  within = t.within;
  lefts_apart = λ i j less inside. differ i j less inside (cases_eq i 0);
  rights_apart = t.apart;
  wanted = λ k h.
      let before : get_or from k 0 < length lefts = omega (arith, t.earlier k h, t.one_more) in
      (get_or lefts (get_or from k 0) 0, contains_at lefts (get_or from k 0) before, (t.within (get_or from k 0) before, t.joined k h));
  all = λ l q among joined. let at = place_in lefts l among in reaches at.0 l q at.1 at.2 joined.1;
  one_more = t.one_more;
}
  where
    on : (k i : ℕ) → k ≡ i + 1 → k < length lefts → get_or place (get_or lefts k 0) None ≡ Some (get_or rights i 0)
    on k i is inside =
        let i_in : i < length rights = omega (arith, t.one_more) in
        subst (λ n. get_or place (get_or lefts n 0) None ≡ Some (get_or rights i 0)) (sym is)
        (p.placed (get_or lefts (i + 1) 0) (get_or rights i 0) (t.owned i i_in))

    differ : (i j : ℕ) → i < j → j < length lefts → (i ≡ 0) ⊎ (i ≡ 0 → ⊥) → get_or lefts i 0 ≢ get_or lefts j 0
    differ i j less inside (inl first) = λ e.
        let there = on j (j - 1) (omega arith) inside in
        absurd (let bad : ⊥ = cc (begin, first, e, there) in bad)
    differ i j less inside (inr later) = λ e.
        let there = on j (j - 1) (omega arith) inside in
        let here = on i (i - 1) (omega arith) (omega arith) in
        let same : get_or rights (i - 1) 0 ≡ get_or rights (j - 1) 0 = cc (here, there, e) in
        t.apart (i - 1) (j - 1) (omega arith) (omega (arith, t.one_more)) same

    reaches : (i l q : ℕ) → i < length lefts → get_or lefts i 0 ≡ l → Contains {X = ℕ × ℕ} pairs (get_or rows l 0, q) → Contains rights q
    reaches i l q i_in is (k, inside, pair_is) =
        let whole_pair : get_or pairs k (0, 0) ≡ (get_or rows l 0, q) = get_or_default pairs k (0, 0) (get_or rows l 0, q) inside ∙ pair_is in
        let row : row_at pairs k ≡ get_or rows (get_or lefts i 0) 0 = ap (λ (x : ℕ × ℕ). x.0) whole_pair ∙ ap (λ n. get_or rows n 0) (sym is) in
        let right : right_at pairs k ≡ q = ap (λ (x : ℕ × ℕ). x.1) whole_pair in
        subst (Contains rights) right (r.reached (right_at pairs k) (covered i i_in k inside row))

-- such left numbers leave no placing of all
pub violator_bars : (g : Graph) (lefts rights : List ℕ) → IsViolator g lefts rights → HasNoPlacing g
violator_bars g lefts rights v answer p =
    let on : ℕ → ℕ = λ l. get_or answer l 0 in
    let at : (k : ℕ) → k < length lefts → get_or (map on lefts) k 0 ≡ get_or answer (get_or lefts k 0) 0 = λ k h. get_or-map on lefts k 0 0 h in
    let size : length (map on lefts) ≡ length lefts = length-map lefts on in
    let inside : (k : ℕ) → k < length lefts → get_or lefts k 0 < length answer = λ k h. omega (arith, p.each, v.within k h) in
    let few = no_more_than (map on lefts) rights
    (λ i j less j_in.
    let j_left : j < length lefts = omega arith in
    let i_left : i < length lefts = omega arith in
    λ e. apart_both answer (get_or lefts i 0) (get_or lefts j 0) p.apart (inside i i_left) (inside j j_left) (v.lefts_apart i j less j_left)
    (sym (at i i_left) ∙ (e ∙ at j j_left)))
    (λ k k_in.
    let k_left : k < length lefts = omega arith in
    rw (at k k_left) (v.all (get_or lefts k 0) (get_or answer (get_or lefts k 0) 0) (contains_at lefts k k_left) (p.joined (get_or lefts k 0) (v.within k k_left)))) in
    omega (arith, few, size, v.one_more)

-- where all are placed, the places are a placing
pub places_are_placing : (g : Graph) (place owner : List (Option ℕ)) (answer : List ℕ) → IsPartial g place owner → length answer ≡ length place →
    ((l : ℕ) → l < length place → get_or place l None ≡ Some (get_or answer l 0)) → IsPlacing g answer
places_are_placing g place owner answer p each same = record {
  each = each ∙ p.lefts;
  joined = λ l h. p.joined l (get_or answer l 0) (same l (omega (arith, p.lefts)));
  apart = λ i j less inside e.
      let j_in : j < length place = omega arith in
      let i_in : i < length place = omega arith in
      let first = p.owned i (get_or answer i 0) (same i i_in) in
      let second = p.owned j (get_or answer j 0) (same j j_in) in
      let one : i ≡ j = cc (first, second, e) in
      omega arith;
}

-- a search begins with its left number
pub first_left : (old new : List ℕ) (left : ℕ) → old ≡ left ∷ [] → Extends old new → get_or new 0 0 ≡ left
first_left old new left is e =
    let size : length old ≡ 1 = ap length is in
    e.same 0 (omega arith) ∙ ap (λ (xs : List ℕ). get_or xs 0 0) is
