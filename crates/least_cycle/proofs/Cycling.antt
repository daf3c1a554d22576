-- Least steps back to the first node are its least shortest cycle.
use Rattle.std.proofs.Common.{◌≡◌, ◌<◌, ◌≤◌, ◌+◌, ◌-◌, ◌⊎◌, ℕ, zero, suc, List, [], ◌∷◌, Option, Some, length, slice_get, get_or, refl, sym, ap, ◌∙◌, subst, inl, inr, arith}
use Rattle.std.proofs.lemmas.Bool.{cases_eq, cases_lt}
use Rattle.std.proofs.lemmas.Option.{slice_get_within, slice_get-get_or, get_or_from_slice_get}
use Rattle.list_laws.specs.Orders.{Once}
use Rattle.list_laws.proofs.Onces.{once_of}
use Rattle.least_cycle.specs.Cycles.{IsEdge, IsCycle, IsCycleFrom, ComesBefore, IsLeastOfShortest}
use Rattle.least_cycle.proofs.Turning.{begun_there}
use Rattle.least_cycle.specs.Walks.{Joins, IsAt, AreDistances, IsLeastStep, IsLeastWay}

pub lists_same : (xs ys : List ℕ) → length xs ≡ length ys → ((i : ℕ) → i < length xs → get_or xs i 0 ≡ get_or ys i 0) → xs ≡ ys
lists_same [] [] size same = refl
lists_same [] (y ∷ ys) size same = absurd (omega (arith, size))
lists_same (x ∷ xs) [] size same = absurd (omega (arith, size))
lists_same (x ∷ xs) (y ∷ ys) size same =
    let head : x ≡ y = same 0 (omega arith) in
    let rest : xs ≡ ys = lists_same xs ys (omega (arith, size)) (λ i low. same (suc i) (omega (arith, low))) in
    ap (λ (z : ℕ). z ∷ xs) head ∙ ap (λ (zs : List ℕ). y ∷ zs) rest

-- distances are one value a node
pub one_distance : (distances : List (Option ℕ)) (x d e : ℕ) → IsAt distances x d → IsAt distances x e → d ≡ e
one_distance distances x d e at_d at_e = let both : Some (Some d) ≡ Some (Some e) = sym at_d ∙ at_e in cc both

module _ (edges : List (ℕ × ℕ)) (nodes first : ℕ) (distances : List (Option ℕ)) (are : AreDistances (IsEdge edges) nodes first distances) where
  -- what comes after a node of a cycle from the first one is no farther than the cycle is long
  pub tail_near : (other : List ℕ) → IsCycleFrom edges first other → (k i : ℕ) → i + suc k ≡ length other → (d : ℕ) × IsAt distances (get_or other i 0) d × (d ≤ suc k)
  tail_near other c zero i place =
      let last : length other - 1 ≡ i = omega (arith, place) in
      let edge : IsEdge edges (get_or other i 0) first = subst (λ (n : ℕ). IsEdge edges (get_or other n 0) first) last (subst (λ (n : ℕ). IsEdge edges (get_or other (length other - 1) 0) n) c.begins c.is_cycle.closed) in
      let r = are.near (get_or other i 0) first 0 edge are.here in
      (r.0, r.1, omega (arith, r.2))
  tail_near other c (suc k) i place =
      let later = tail_near other c k (i + 1) (omega (arith, place)) in
      let edge : IsEdge edges (get_or other i 0) (get_or other (i + 1) 0) = c.is_cycle.along_edges i (omega (arith, place)) in
      let r = are.near (get_or other i 0) (get_or other (i + 1) 0) later.0 edge later.1 in
      (r.0, r.1, omega (arith, r.2, later.2))

  -- the second node of a cycle, which is the first one again where there is no other
  pub second_near : (other : List ℕ) → IsCycleFrom edges first other → (next : ℕ) × (d : ℕ) × IsEdge edges first next × IsAt distances next d × (d + 1 ≤ length other)
  second_near other c = by (cases_lt 1 (length other))
    where
      by : (1 < length other) ⊎ (length other ≤ 1) → (next : ℕ) × (d : ℕ) × IsEdge edges first next × IsAt distances next d × (d + 1 ≤ length other)
      by (inr one) =
          let last : length other - 1 ≡ 0 = omega (arith, one) in
          let edge : IsEdge edges (get_or other 0 0) first = subst (λ (n : ℕ). IsEdge edges (get_or other n 0) first) last (subst (λ (n : ℕ). IsEdge edges (get_or other (length other - 1) 0) n) c.begins c.is_cycle.closed) in
          (first, 0, subst (λ (n : ℕ). IsEdge edges n first) c.begins edge, are.here, omega (arith, c.is_cycle.some_node))
      by (inl more) =
          let size : 1 + suc (length other - 2) ≡ length other = omega (arith, more) in
          let near = tail_near other c (length other - 2) 1 size in
          let edge : IsEdge edges (get_or other 0 0) (get_or other 1 0) = c.is_cycle.along_edges 0 (omega (arith, more)) in
          (get_or other 1 0, near.0, subst (λ (n : ℕ). IsEdge edges n (get_or other 1 0)) c.begins edge, near.1, omega (arith, near.2, more))

  module _ (table : List (List ℕ)) (out : (x y : ℕ) → Joins table x y → IsEdge edges x y) (into : (x y : ℕ) → IsEdge edges x y → Joins table x y)
      (cycle : List ℕ) (way : IsLeastWay table distances first cycle) where
    long : length cycle ≡ way.nearest + 1
    long = omega (arith, way.steps.long)

    there : (i : ℕ) → i < length cycle → slice_get cycle i ≡ Some (get_or cycle i 0)
    there i low = slice_get-get_or cycle i 0 low

    begins : get_or cycle 0 0 ≡ first
    begins = get_or_from_slice_get cycle 0 first 0 way.steps.begins

    step : (i k : ℕ) → i + k ≡ way.nearest → i + 1 < length cycle → IsLeastStep table distances (get_or cycle i 0) k (get_or cycle (suc i) 0)
    step i k sum low = way.steps.each i k (get_or cycle i 0) (get_or cycle (suc i) 0) sum (there i (omega (arith, low))) (there (suc i) (omega (arith, low)))

    next_one : (i : ℕ) → i + 1 ≡ suc i
    next_one i = omega arith

    along : (i : ℕ) → i + 1 < length cycle → IsEdge edges (get_or cycle i 0) (get_or cycle (i + 1) 0)
    along i low =
        let sum : i + (way.nearest - i) ≡ way.nearest = omega (arith, low, long) in
        let r = step i (way.nearest - i) sum low in
        subst (λ (n : ℕ). IsEdge edges (get_or cycle i 0) (get_or cycle n 0)) (sym (next_one i)) (out (get_or cycle i 0) (get_or cycle (suc i) 0) r.holds.0)

    pub way_cycle : IsCycle edges cycle
    way_cycle = record {
      some_node = omega (arith, long);
      along_edges = along;
      closed =
          let place : length cycle - 1 + 1 ≡ length cycle = omega (arith, long) in
          let low : length cycle - 1 < length cycle = omega (arith, long) in
          let home = way.back (length cycle - 1) (get_or cycle (length cycle - 1) 0) place (there (length cycle - 1) low) in
          subst (λ (n : ℕ). IsEdge edges (get_or cycle (length cycle - 1) 0) n) (sym begins) (out (get_or cycle (length cycle - 1) 0) first home);
    }

    pub way_begins : get_or cycle 0 0 ≡ first
    way_begins = begins

    shortest : (other : List ℕ) → IsCycleFrom edges first other → length cycle ≤ length other
    shortest other c =
        let second = second_near other c in
        let low = way.is_nearest.below second.1 (second.0, into first second.0 second.2, second.3) in
        omega (arith, low, second.4, long)

    -- the distance of the later nodes
    distance_at : (i k : ℕ) → suc i + k ≡ way.nearest + 1 → suc i < length cycle → IsAt distances (get_or cycle (suc i) 0) k
    distance_at i k sum low = (step i k (omega (arith, sum)) (omega (arith, low))).holds.1

    module _ (other : List ℕ) (c : IsCycleFrom edges first other) (size : length other ≡ length cycle) where
      -- the same nodes below a place
      abbrev Same : ℕ → Type 0
      Same n = (i : ℕ) → i < n → get_or cycle i 0 ≡ get_or other i 0

      -- where the nodes so far are the same, the next one is at the same distance
      other_at : (m k : ℕ) → m + k ≡ way.nearest → m + 1 < length cycle → Same (m + 1) → IsAt distances (get_or other (suc m) 0) k
      other_at m k sum low same = subst (λ (d : ℕ). IsAt distances (get_or other (suc m) 0) d) (exact (near.0) near.1 near.2) near.1
        where
          near : (d : ℕ) × IsAt distances (get_or other (suc m) 0) d × (d ≤ suc (k - 1))
          near = tail_near other c (k - 1) (suc m) (omega (arith, sum, low, long, size))

          edge : IsEdge edges (get_or cycle m 0) (get_or other (suc m) 0)
          edge =
              let given : IsEdge edges (get_or other m 0) (get_or other (m + 1) 0) = c.is_cycle.along_edges m (omega (arith, low, size)) in
              subst (λ (n : ℕ). IsEdge edges n (get_or other (suc m) 0)) (sym (same m (omega arith))) (subst (λ (n : ℕ). IsEdge edges (get_or other m 0) (get_or other n 0)) (next_one m) given)

          high : (m : ℕ) → m + k ≡ way.nearest → m + 1 < length cycle → IsEdge edges (get_or cycle m 0) (get_or other (suc m) 0) → (d : ℕ) → IsAt distances (get_or other (suc m) 0) d → k ≤ d
          high zero sum low edge d at =
              let from_first = subst (λ (n : ℕ). IsEdge edges n (get_or other 1 0)) begins edge in
              let by = way.is_nearest.below d (get_or other 1 0, into first (get_or other 1 0) from_first, at) in
              omega (arith, by, sum)
          high (suc p) sum low edge d at =
              let mine = distance_at p (k + 1) (omega (arith, sum)) (omega (arith, low)) in
              let r = are.near (get_or cycle (suc p) 0) (get_or other (suc (suc p)) 0) d edge at in
              let is = one_distance distances (get_or cycle (suc p) 0) (k + 1) r.0 mine r.1 in
              omega (arith, is, r.2)

          exact : (d : ℕ) → IsAt distances (get_or other (suc m) 0) d → d ≤ suc (k - 1) → d ≡ k
          exact d at low_d = let up = high m sum low edge d at in omega (arith, up, low_d, sum, low, long)

      next_same : (n : ℕ) → n < length cycle → Same n → Same (n + 1) ⊎ ComesBefore cycle other
      next_same zero low same = inl (λ i less. let is : i ≡ 0 = omega (arith, less) in subst (λ (j : ℕ). get_or cycle j 0 ≡ get_or other j 0) (sym is) (begins ∙ sym c.begins))
      next_same (suc m) low same =
          let sum : m + (way.nearest - m) ≡ way.nearest = omega (arith, low, long) in
          let one : suc m ≡ m + 1 = omega arith in
          let so_far : Same (m + 1) = λ i less. same i (omega (arith, less)) in
          let theirs = other_at m (way.nearest - m) sum (omega (arith, low)) so_far in
          let mine = step m (way.nearest - m) sum (omega (arith, low)) in
          let given : IsEdge edges (get_or other m 0) (get_or other (m + 1) 0) = c.is_cycle.along_edges m (omega (arith, low, size)) in
          let edge : IsEdge edges (get_or cycle m 0) (get_or other (suc m) 0) =
          subst (λ (n : ℕ). IsEdge edges n (get_or other (suc m) 0)) (sym (same m (omega arith))) (subst (λ (n : ℕ). IsEdge edges (get_or other m 0) (get_or other n 0)) (next_one m) given) in
          let least : get_or cycle (suc m) 0 ≤ get_or other (suc m) 0 = mine.below (get_or other (suc m) 0) (into (get_or cycle m 0) (get_or other (suc m) 0) edge, theirs) in
          elim (cases_eq (get_or cycle (suc m) 0) (get_or other (suc m) 0)) [
            | inl is ↦ inl (λ i less. elim (cases_eq i (suc m)) [
              | inl here ↦ subst (λ (j : ℕ). get_or cycle j 0 ≡ get_or other j 0) (sym here) is
              | inr before ↦ same i (omega (arith, less, before))
            ])
            | inr differ ↦ inr (record {
              place = suc m;
              within = low;
              within_other = omega (arith, low, size);
              same = same;
              lower = omega (arith, least, differ);
            })
          ]

      all_same : (n : ℕ) → n ≤ length cycle → Same n ⊎ ComesBefore cycle other
      all_same zero low = inl (λ i less. absurd (omega (arith, less)))
      all_same (suc n) low = elim (all_same n (omega (arith, low))) [
        | inl same ↦ elim (next_same n (omega (arith, low)) same) [
          | inl more ↦ inl (λ i less. more i (omega (arith, less)))
          | inr before ↦ inr before
        ]
        | inr before ↦ inr before
      ]

      least_of : (other ≡ cycle) ⊎ ComesBefore cycle other
      least_of = elim (all_same (length cycle) (omega arith)) [
        | inl same ↦ inl (lists_same other cycle size (λ i low. sym (same i (omega (arith, low, size)))))
        | inr before ↦ inr before
      ]

    pub way_least : IsLeastOfShortest edges cycle
    way_least = record {
      shortest = λ other c has. (
          let there = begun_there edges other c (get_or cycle 0 0) has in
          let short = shortest there.0 (subst (λ (n : ℕ). IsCycleFrom edges n there.0) begins there.1) in
          omega (arith, short, there.2));
      least = λ other c size. least_of other (subst (λ (n : ℕ). IsCycleFrom edges n other) begins c) size;
    }

    -- each place has a distance of its own
    record IsPlaced (i : ℕ) (d : ℕ) : Type 0 where
      at : IsAt distances (get_or cycle i 0) d
      place : ((i ≡ 0) × (d ≡ 0)) ⊎ ((0 < i) × (i + d ≡ way.nearest + 1))

    placed : (i : ℕ) → i < length cycle → (d : ℕ) × IsPlaced i d
    placed zero low = (0, record { at = subst (λ (n : ℕ). IsAt distances n 0) (sym begins) are.here; place = inl (refl, refl) })
    placed (suc i) low =
        let sum : suc i + (way.nearest - i) ≡ way.nearest + 1 = omega (arith, low, long) in
        (way.nearest - i, record { at = distance_at i (way.nearest - i) sum low; place = inr (omega arith, sum) })

    pub way_once : Once cycle
    way_once = once_of cycle (λ i j x at_i at_j.
        let low_i = slice_get_within cycle i x at_i in
        let low_j = slice_get_within cycle j x at_j in
        let p = placed i low_i in
        let q = placed j low_j in
        let same : get_or cycle i 0 ≡ get_or cycle j 0 = get_or_from_slice_get cycle i x 0 at_i ∙ sym (get_or_from_slice_get cycle j x 0 at_j) in
        let is = one_distance distances (get_or cycle j 0) p.0 q.0 (subst (λ (n : ℕ). IsAt distances n p.0) same p.1.at) q.1.at in
        elim p.1.place [
          | inl a ↦ elim q.1.place [ inl b ↦ omega (arith, a.0, b.0) | inr b ↦ absurd (omega (arith, a.1, b.1, is, low_j, long)) ]
          | inr a ↦ elim q.1.place [ inl b ↦ absurd (omega (arith, b.1, a.1, is, low_i, long)) | inr b ↦ omega (arith, a.1, b.1, is) ]
        ])
