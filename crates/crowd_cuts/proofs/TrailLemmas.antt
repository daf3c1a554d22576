-- A trail that begins with a wanted path is a path, and two of them share no node.
use Rattle.std.proofs.Common.{◌≡◌, ℕ, zero, suc, ◌<◌, ◌≤◌, ◌+◌, List, [], ◌∷◌, ◌++◌, length, arith, subst, sym, add-one, ◌∙◌, ap, inl, inr, refl}
use Rattle.std.specs.List.{Contains}
use Rattle.std.specs.Prelude.{slice_index, slice_index_or, ◌-◌}
use Rattle.std.proofs.lemmas.Bool.{cases_lt, cases_order}
use Rattle.std.proofs.lemmas.List.{get_or_append_left, get_or_push, length-append}
use Rattle.crowd_cuts.specs.Paths.{AreDisjointPaths, IsPath}
use Rattle.crowd_cuts.specs.Reduction.{AreBetween, AreNodes, AreTrails, IsPair, IsReduced, IsTrail, IsWholeTrail}
use Rattle.matching.specs.Bipartite.{AreApart, Graph, IsPlacing}
use Rattle.matching.proofs.Counting.{few_below}

-- equal elements of a list of different numbers stand at one place
one_place : (xs : List ℕ) (i j : ℕ) → AreApart xs → i < length xs → j < length xs → slice_index xs i ≡ slice_index xs j → i ≡ j
one_place xs i j apart here there same =
    elim (cases_order i j) [
      | inl e ↦ e
      | inr lt ↦ elim lt [ inl l ↦ absurd (apart i j l there same) | inr g ↦ absurd (apart j i g here (sym same)) ]
    ]

-- what comes before a node of a trail is on the left, and is placed
before_within : {nodes : ℕ} {places : List ℕ} {left next : ℕ} (trail : List ℕ) → IsTrail nodes places left trail next → left < length places → nodes ≤ length places →
    (i : ℕ) → i ≤ length trail → slice_index (left ∷ trail) i < length places
before_within trail is low few zero h = low
before_within trail is low few (suc i) h =
    let lt : i < length trail = omega arith in
    let inside = is.inside i lt in
    omega (arith, inside)

-- one node on two trails is the same step of one trail
pub trails_meet : {nodes : ℕ} {places : List ℕ} {a b s t : ℕ} (p q : List ℕ) → IsTrail nodes places a p s → IsTrail nodes places b q t → AreApart places →
    nodes ≤ a → a < length places → nodes ≤ b → b < length places →
    (x y : ℕ) → x < length p → y < length q → slice_index p x ≡ slice_index q y → (a ≡ b) × (x ≡ y)
trails_meet {places = places} {a = a} {b = b} p q one two apart high low high2 low2 zero zero hx hy same =
    (one_place places a b apart low low2 (one.steps zero hx ∙ same ∙ sym (two.steps zero hy)), refl)
trails_meet {nodes = nodes} {places = places} {a = a} p q one two apart high low high2 low2 zero (suc y) hx hy same =
    let lt : y < length q = omega arith in
    let few : nodes ≤ length places = omega arith in
    let inside = two.inside y lt in
    let e : a ≡ slice_index q y = one_place places a (slice_index q y) apart low (omega (arith, inside)) (one.steps zero hx ∙ same ∙ sym (two.steps (suc y) hy)) in
    absurd (omega (arith, e, inside))
trails_meet {nodes = nodes} {places = places} {b = b} p q one two apart high low high2 low2 (suc x) zero hx hy same =
    let lt : x < length p = omega arith in
    let inside = one.inside x lt in
    let e : slice_index p x ≡ b = one_place places (slice_index p x) b apart (omega (arith, inside)) low2 (one.steps (suc x) hx ∙ same ∙ sym (two.steps zero hy)) in
    absurd (omega (arith, e, inside))
trails_meet {places = places} p q one two apart high low high2 low2 (suc x) (suc y) hx hy same =
    let ltx : x < length p = omega arith in
    let lty : y < length q = omega arith in
    let inside = one.inside x ltx in
    let inside2 = two.inside y lty in
    let e : slice_index p x ≡ slice_index q y = one_place places (slice_index p x) (slice_index q y) apart (omega (arith, inside)) (omega (arith, inside2)) (one.steps (suc x) hx ∙ same ∙ sym (two.steps (suc y) hy)) in
    let earlier = trails_meet p q one two apart high low high2 low2 x y ltx lty e in
    (earlier.0, ap suc earlier.1)

-- a trail goes on to a node
pub trail_grows : {nodes : ℕ} {places : List ℕ} {left : ℕ} (trail : List ℕ) (next : ℕ) → IsTrail nodes places left trail next → next < nodes →
    IsTrail nodes places left (trail ++ next ∷ []) (slice_index places next)
trail_grows {nodes} {places} {left} trail next is lt =
    let len : length (trail ++ next ∷ []) ≡ length trail + 1 = length-append trail (next ∷ []) in
    let old : (i : ℕ) → i < length trail → slice_index (trail ++ next ∷ []) i ≡ slice_index trail i = λ i h. get_or_append_left trail (next ∷ []) 0 i h in
    let last : slice_index (trail ++ next ∷ []) (length trail) ≡ next = get_or_push trail next 0 (length trail) refl in
    let before : (i : ℕ) → i ≤ length trail → slice_index (left ∷ (trail ++ next ∷ [])) i ≡ slice_index (left ∷ trail) i =
    λ i h. get_or_append_left (left ∷ trail) (next ∷ []) 0 i (omega arith) in
    record {
      inside = λ i h. elim (cases_lt i (length trail)) [
        | inl l ↦ rw (old i l) (is.inside i l)
        | inr g ↦ (let e : i ≡ length trail = omega (arith, len) in rw (e, last) lt)
      ];
      steps = λ i h. elim (cases_lt i (length trail)) [
        | inl l ↦ rw (old i l, before i (omega arith)) (is.steps i l)
        | inr g ↦ (let e : i ≡ length trail = omega (arith, len) in rw (e, last, before (length trail) (omega arith)) is.goes_on)
      ];
      goes_on =
          let grown : List ℕ = left ∷ (trail ++ next ∷ []) in
          let same : suc (length trail) ≡ length (trail ++ next ∷ []) = omega (arith, len) in
          let P : ℕ → Type 0 = λ k. slice_index grown k ≡ next in
          ap (λ v. slice_index places v) (subst P same last);
    }

-- the nodes of a trail differ, so it is short
pub trail_is_short : {nodes : ℕ} {places : List ℕ} {left next : ℕ} (trail : List ℕ) → IsTrail nodes places left trail next → AreApart places →
    nodes ≤ left → left < length places → length trail ≤ nodes
trail_is_short {nodes} trail is apart high low =
    few_below nodes trail
    (λ i j lt within same. let met = trails_meet trail trail is is apart high low high low i j (omega arith) within same in omega (arith, met.1))
    is.inside

-- a pair of a wanted path is a start
pair_of_wanted : (nodes : ℕ) (edges : List (ℕ × ℕ)) (starts ends : List ℕ) (left right : ℕ) → AreBetween nodes edges → AreNodes nodes ends →
    nodes ≤ left → IsPair nodes edges starts ends left right → Contains starts right
pair_of_wanted nodes edges starts ends left right between nodes_only high pair =
    elim pair [
      | inl self ↦ absurd (omega (arith, self.0))
      | inr more ↦ elim more [
        | inl edge ↦ absurd (let in' = between left right edge in omega (arith, in'.0))
        | inr more2 ↦ elim more2 [
          | inl out ↦ absurd (let in' = nodes_only left out.1 in omega (arith, in'))
          | inr start ↦ start.1
        ]
      ]
    ]

-- a pair of a node with another node is an edge
pair_of_nodes : (nodes : ℕ) (edges : List (ℕ × ℕ)) (starts ends : List ℕ) (left right : ℕ) →
    left < nodes → right < nodes → (right ≡ left → ⊥) → IsPair nodes edges starts ends left right → Contains {X = ℕ × ℕ} edges (left, right)
pair_of_nodes nodes edges starts ends left right low low2 other pair =
    elim pair [
      | inl self ↦ absurd (other self.1)
      | inr more ↦ elim more [
        | inl edge ↦ edge
        | inr more2 ↦ elim more2 [
          | inl out ↦ absurd (omega (arith, out.0))
          | inr start ↦ absurd (omega (arith, start.0))
        ]
      ]
    ]

-- a node whose pair is no node is an end
pair_out : (nodes : ℕ) (edges : List (ℕ × ℕ)) (starts ends : List ℕ) (left right : ℕ) → AreBetween nodes edges →
    left < nodes → nodes ≤ right → IsPair nodes edges starts ends left right → Contains ends left
pair_out nodes edges starts ends left right between low high pair =
    elim pair [
      | inl self ↦ absurd (omega (arith, self.1))
      | inr more ↦ elim more [
        | inl edge ↦ absurd (let in' = between left right edge in omega (arith, in'.1))
        | inr more2 ↦ elim more2 [
          | inl out ↦ out.1
          | inr start ↦ absurd (omega (arith, start.0))
        ]
      ]
    ]

-- a trail from a wanted path that goes on to no node is a path
pub trail_is_path : {nodes : ℕ} {edges : List (ℕ × ℕ)} {starts ends : List ℕ} {count : ℕ} {g : Graph} {places : List ℕ} {left next : ℕ} (trail : List ℕ) →
    IsReduced nodes edges starts ends count g → IsPlacing g places → IsTrail nodes places left trail next → AreBetween nodes edges → AreNodes nodes starts → AreNodes nodes ends →
    nodes ≤ left → left < nodes + count → nodes ≤ next → IsPath edges starts ends trail
trail_is_path {nodes} {edges} {starts} {ends} {count} {g} {places} {left} {next} [] reduced placed is between are_starts are_ends high low out =
    let start = are_starts _ (pair_of_wanted nodes edges starts ends left _ between are_ends high (reduced.only left _ (placed.joined left (omega (arith, reduced.each))))) in
    absurd (omega (arith, is.goes_on, start))
trail_is_path {nodes} {edges} {starts} {ends} {count} {g} {places} {left} {next} (v ∷ trail) reduced placed is between are_starts are_ends high low out =
    let within : left < length places = omega (arith, placed.each, reduced.each) in
    record {
      some_node = omega arith;
      from_start =
          let e : slice_index places left ≡ v = is.steps 0 (omega arith) in
          let P : ℕ → Type 0 = λ w. Contains starts w in
          subst P e (pair_of_wanted nodes edges starts ends left _ between are_ends high (reduced.only left _ (placed.joined left (omega (arith, reduced.each)))));
      along_edges = λ i h.
          let here : i < length (v ∷ trail) = omega arith in
          let inside = is.inside i here in
          let inside2 = is.inside (i + 1) h in
          let e : slice_index places (slice_index (v ∷ trail) i) ≡ slice_index (v ∷ trail) (i + 1) = rw add-one (is.steps (suc i) (omega arith)) in
          let pair = reduced.only _ _ (placed.joined (slice_index (v ∷ trail) i) (omega (arith, inside, reduced.each))) in
          let P : ℕ → Type 0 = λ w. IsPair nodes edges starts ends (slice_index (v ∷ trail) i) w in
          pair_of_nodes nodes edges starts ends _ _ inside inside2 (λ same. let met = trails_meet (v ∷ trail) (v ∷ trail) is is placed.apart high within high within (i + 1) i h here same in omega (arith, met.1))
          (subst P e pair);
      to_end =
          let last : ℕ = slice_index (v ∷ trail) (length trail) in
          let inside : last < nodes = is.inside (length trail) (omega arith) in
          let pair = reduced.only _ _ (placed.joined last (omega (arith, inside, reduced.each))) in
          let at_last : length trail ≡ length (v ∷ trail) - 1 = omega arith in
          let P : ℕ → Type 0 = λ k. Contains ends (slice_index (v ∷ trail) k) in
          subst P at_last (pair_out nodes edges starts ends last (slice_index places last) between inside (omega (arith, is.goes_on)) pair);
    }

-- one trail more
pub trails_grow : {nodes : ℕ} {places : List ℕ} {count : ℕ} (trails : List (List ℕ)) (trail : List ℕ) → AreTrails nodes places count trails → IsWholeTrail nodes places (nodes + count) trail →
    AreTrails nodes places (count + 1) (trails ++ trail ∷ [])
trails_grow {nodes} {places} {count} trails trail are whole =
    let P : ℕ → List ℕ → Type 0 = λ a t. IsWholeTrail nodes places (nodes + a) t in
    record {
      as_many = omega (arith, length-append trails (trail ∷ []), are.as_many);
      each = λ a h. elim (cases_lt a count) [
        | inl low ↦ (let lt : a < length trails = omega (arith, are.as_many) in
            subst (P a) (sym (get_or_append_left trails (trail ∷ []) [] a lt)) (are.each a low))
        | inr high ↦ (
            let e : count ≡ a = omega arith in
            let last : slice_index_or (trails ++ trail ∷ []) a [] ≡ trail = get_or_push trails trail [] a (omega (arith, are.as_many)) in
            subst (P a) (sym last) (let Q : ℕ → Type 0 = λ (b : ℕ). P b trail in subst Q e whole))
      ];
    }

-- trails from all wanted paths are paths that share no node
pub trails_are_paths : {nodes : ℕ} {edges : List (ℕ × ℕ)} {starts ends : List ℕ} {count : ℕ} {g : Graph} {places : List ℕ} {trails : List (List ℕ)} →
    IsReduced nodes edges starts ends count g → IsPlacing g places → AreTrails nodes places count trails → AreBetween nodes edges → AreNodes nodes starts → AreNodes nodes ends →
    AreDisjointPaths edges starts ends count trails
trails_are_paths {nodes} {count = count} {places = places} {trails = trails} reduced placed are between are_starts are_ends = record {
  as_many = are.as_many;
  are_paths = λ a h.
      let lt : a < count = omega (arith, are.as_many) in
      let whole = are.each a lt in
      trail_is_path (slice_index_or trails a []) reduced placed whole.2 between are_starts are_ends (omega arith) (omega (arith, lt)) whole.1;
  disjoint = λ a b x y ha hb hx hy same.
      let la : a < count = omega (arith, are.as_many) in
      let lb : b < count = omega (arith, are.as_many) in
      let one = are.each a la in
      let other = are.each b lb in
      let shared = trails_meet (slice_index_or trails a []) (slice_index_or trails b []) one.2 other.2 placed.apart
      (omega arith) (omega (arith, placed.each, reduced.each)) (omega arith) (omega (arith, placed.each, reduced.each)) x y hx hy same in
      (omega (arith, shared.0), shared.1);
}
