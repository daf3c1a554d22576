-- A queue of nodes is scanned for their distances.
use Rattle.std.proofs.Common.{◌≡◌, ◌<◌, ◌≤◌, ◌+◌, ◌-◌, ◌^◌, ℕ, zero, suc, List, [], ◌∷◌, Option, Some, None, length, slice_get, replicate, refl, sym, ap, ◌∙◌, subst, inl, inr, arith}
use Rattle.std.specs.Prelude.{count_by}
use Rattle.std.proofs.Math.ListN.{set, length-set}
use Rattle.std.proofs.lemmas.Bool.{cases_eq}
use Rattle.std.proofs.lemmas.List.{length-replicate}
use Rattle.std.proofs.lemmas.List.Sums.{count_by-le-length}
use Rattle.std.proofs.lemmas.Option.{slice_get_within}
use Rattle.vtr_base.specs.Lists.{Has}
use Rattle.list_laws.proofs.Members.{at_has}
use Rattle.least_cycle.specs.Walks.{JoinsBack, IsAt, AreDistances}
use Rattle.least_cycle.specs.Spreads.{is_far, IsQueued, AreSpread, IsScan}
use Rattle.least_cycle.proofs.Lists.{get_set_same, get_set_other, count_set_less}

-- and the scan is within the queue
pub record IsScanning (E : ℕ → ℕ → Type 0) (nodes to : ℕ) (distances : List (Option ℕ)) (queue : List (ℕ × ℕ)) (at : ℕ) : Type 0 where
  pub scan : IsScan E nodes to distances queue at
  pub low : at ≤ length queue

module _ (E : ℕ → ℕ → Type 0) (nodes to : ℕ) where
  far_read : (n k d : ℕ) → slice_get (replicate n None) k ≡ Some (Some d) → ⊥
  far_read zero k d at = let no_way : ⊥ = cc at in no_way
  far_read (suc n) zero d at = let no_way : ⊥ = cc at in no_way
  far_read (suc n) (suc k) d at = far_read n k d at

  module _ (low : to < nodes) where
    abbrev begun : List (Option ℕ)
    begun = set (replicate nodes None) to (Some 0)

    long : length (replicate {A = Option ℕ} nodes None) ≡ nodes
    long = length-replicate nodes None

    here : IsAt begun to 0
    here = get_set_same (replicate nodes None) to (Some 0) (omega (arith, long, low))

    only : (x d : ℕ) → IsAt begun x d → (x ≡ to) × (d ≡ 0)
    only x d at = elim (cases_eq x to) [
      | inl is ↦ (is, let both : Some (Some d) ≡ Some (Some 0) = sym at ∙ (ap (λ (k : ℕ). slice_get begun k) is ∙ here) in cc both)
      | inr other ↦ absurd (far_read nodes x d (sym (get_set_other (replicate nodes None) to x (Some 0) other) ∙ at))
    ]

    single : (i x d : ℕ) → IsQueued ((to, 0) ∷ []) i x d → (i ≡ 0) × (x ≡ to) × (d ≡ 0)
    single zero x d at =
        let first : ℕ × ℕ = (to, 0) in
        let both : Some first ≡ Some (x, d) = at in
        let is : first ≡ (x, d) = cc both in
        (refl, sym (ap (λ (p : ℕ × ℕ). p.0) is), sym (ap (λ (p : ℕ × ℕ). p.1) is))
    single (suc i) x d at = absurd (let no_way : ⊥ = cc at in no_way)

    far_first : slice_get (replicate {A = Option ℕ} nodes None) to ≡ Some None
    far_first = by nodes to low
      where
        by : (n k : ℕ) → k < n → slice_get (replicate {A = Option ℕ} n None) k ≡ Some None
        by zero k less = absurd (omega (arith, less))
        by (suc n) zero less = refl
        by (suc n) (suc k) less = by n k (omega (arith, less))

    pub begin_scan : IsScanning E nodes to begun ((to, 0) ∷ []) 0
    begin_scan = record {
      low = omega arith;
      scan = record {
        each = length-set (replicate nodes None) to (Some 0) ∙ long;
        queued = λ i x d at. (let r = single i x d at in subst (λ (k : ℕ). IsAt begun k d) (sym r.1) (subst (λ (e : ℕ). IsAt begun to e) (sym r.2) here));
        found = λ x d at. (let r = only x d at in (0, ap (λ (k : ℕ). Some (k, 0)) (sym r.0) ∙ ap (λ (e : ℕ). Some (x, e)) (sym r.1)));
        here = here;
        only_here = λ x at. (only x 0 at).0;
        nearer = λ x d at. absurd (let bad = (only x (suc d) at).1 in omega (arith, bad));
        low = λ i x d at. (let r = single i x d at in omega (arith, r.2));
        sorted = λ i j v w d e le at_v at_w. (let r = single i v d at_v in omega (arith, r.2));
        narrow = λ j v w d e at_v at_w. (let r = single j w e at_w in omega (arith, r.2));
        scanned = λ i x next d less at edge. absurd (omega (arith, less));
        few =
            let less = count_set_less is_far (replicate nodes None) to None (Some 0) far_first refl refl in
            let most = count_by-le-length is_far (replicate nodes None) in
            omega (arith, less, most, long);
      };
    }

  module _ (distances : List (Option ℕ)) (queue : List (ℕ × ℕ)) (at : ℕ) (s : IsScan E nodes to distances queue at) (node d : ℕ) (node_at : IsQueued queue at node d)
      (group : List ℕ) (into : (x : ℕ) → Has group x → E x node) (out_of : (x : ℕ) → E x node → Has group x) (distances' : List (Option ℕ)) (queue' : List (ℕ × ℕ))
      (new : AreSpread group (d + 1) distances queue distances' queue') where
    at_low : at < length queue
    at_low = slice_get_within queue at (node, d) node_at

    -- every queued distance is near
    near_all : (j w b : ℕ) → IsQueued queue' j w b → b ≤ d + 1
    near_all j w b at_w = elim (new.queue_new j w b at_w) [ inl old ↦ s.narrow j node w d b node_at old | inr r ↦ omega (arith, r.1) ]

    old_of : (i x e : ℕ) → i < length queue → IsQueued queue' i x e → IsQueued queue i x e
    old_of i x e low at_x = elim (new.queue_new i x e at_x) [ inl old ↦ old | inr r ↦ absurd (omega (arith, r.0, low)) ]

    found_new : (x e : ℕ) → IsAt distances' x e → (i : ℕ) × IsQueued queue' i x e
    found_new x e at_x = elim (new.given x e at_x) [
      | inl old ↦ (let r = s.found x e old in (r.0, new.queue_kept r.0 x e r.1))
      | inr fresh ↦ subst (λ (f : ℕ). (i : ℕ) × IsQueued queue' i x f) (sym fresh.1) (elim (new.queued x (subst (λ (f : ℕ). IsAt distances' x f) fresh.1 at_x)) [
        | inl old ↦ (let r = s.found x (d + 1) old in (r.0, new.queue_kept r.0 x (d + 1) r.1))
        | inr has ↦ at_has queue' (x, d + 1) has
      ])
    ]

    nearer_new : (x e : ℕ) → IsAt distances' x (suc e) → (next : ℕ) × E x next × IsAt distances' next e
    nearer_new x e at_x = elim (new.given x (suc e) at_x) [
      | inl old ↦ (let r = s.nearer x e old in (r.0, r.1, new.kept r.0 e r.2))
      | inr fresh ↦ (let same : e ≡ d = omega (arith, fresh.1) in
          (node, into x fresh.0, subst (λ (f : ℕ). IsAt distances' node f) (sym same) (new.kept node d (s.queued at node d node_at))))
    ]

    sorted_new : (i j v w a b : ℕ) → i ≤ j → IsQueued queue' i v a → IsQueued queue' j w b → a ≤ b
    sorted_new i j v w a b le at_v at_w = elim (new.queue_new j w b at_w) [
      | inl old_w ↦ (let low = slice_get_within queue j (w, b) old_w in s.sorted i j v w a b le (old_of i v a (omega (arith, low, le)) at_v) old_w)
      | inr r ↦ omega (arith, r.1, near_all i v a at_v)
    ]

    high_next : (v a : ℕ) → IsQueued queue' (at + 1) v a → d ≤ a
    high_next v a at_v = sorted_new at (at + 1) node v d a (omega arith) (new.queue_kept at node d node_at) at_v

    scanned_new : (i x next e : ℕ) → i < at + 1 → IsQueued queue' i next e → E x next → (f : ℕ) × IsAt distances' x f × (f ≤ e + 1)
    scanned_new i x next e less at_next edge = elim (cases_eq i at) [
      | inr other ↦ (let r = s.scanned i x next e (omega (arith, less, other)) (old_of i next e (omega (arith, less, at_low)) at_next) edge in (r.0, new.kept x r.0 r.1, r.2))
      | inl is ↦ here_now (subst (λ (k : ℕ). IsQueued queue' k next e) is at_next)
    ]
      where
        here_now : IsQueued queue' at next e → (f : ℕ) × IsAt distances' x f × (f ≤ e + 1)
        here_now at_it =
            let mine : ℕ × ℕ = (node, d) in
            let theirs : ℕ × ℕ = (next, e) in
            let both : Some theirs ≡ Some mine = sym at_it ∙ new.queue_kept at node d node_at in
            let is : theirs ≡ mine = cc both in
            let node_is : next ≡ node = ap (λ (p : ℕ × ℕ). p.0) is in
            let d_is : e ≡ d = ap (λ (p : ℕ × ℕ). p.1) is in
            let r = new.all x (out_of x (subst (λ (k : ℕ). E x k) node_is edge)) in
            let low : r.0 ≤ d + 1 = elim r.2 [
              | inl old ↦ (let q = s.found x r.0 old in s.narrow q.0 node x d r.0 node_at q.1)
              | inr same ↦ omega (arith, same)
            ] in
            (r.0, r.1, omega (arith, low, d_is))

    pub scan_step : IsScanning E nodes to distances' queue' (at + 1)
    scan_step = record {
      low = omega (arith, slice_get_within queue' at (node, d) (new.queue_kept at node d node_at));
      scan = record {
        each = new.each ∙ s.each;
        queued = λ i x e at_x. elim (new.queue_new i x e at_x) [
          | inl old ↦ new.kept x e (s.queued i x e old)
          | inr r ↦ subst (λ (f : ℕ). IsAt distances' x f) (sym r.1) r.2
        ];
        found = found_new;
        here = new.kept to 0 s.here;
        only_here = λ x at_x. elim (new.given x 0 at_x) [ inl old ↦ s.only_here x old | inr fresh ↦ absurd (omega (arith, fresh.1)) ];
        nearer = nearer_new;
        low = λ i x e at_x. elim (new.queue_new i x e at_x) [
          | inl old ↦ s.low i x e old
          | inr r ↦ (let first = s.low at node d node_at in omega (arith, first, at_low, r.0, r.1))
        ];
        sorted = sorted_new;
        narrow = λ j v w a b at_v at_w. (let high = high_next v a at_v in let near = near_all j w b at_w in omega (arith, high, near));
        scanned = scanned_new;
        few = omega (arith, new.count, s.few);
      };
    }

    -- what falls: nodes without a distance, and the queue that is to be scanned
    pub scan_falls : count_by is_far distances' + (length queue' - (at + 1)) < count_by is_far distances + (length queue - at)
    scan_falls = omega (arith, new.count, at_low, slice_get_within queue' at (node, d) (new.queue_kept at node d node_at))

    pub scan_room : nodes < 2 ^ 32 → d + 1 < 2 ^ 32
    scan_room few = let first = s.low at node d node_at in omega (arith, first, at_low, s.few, few)

    pub node_within : node < nodes
    node_within = omega (arith, slice_get_within distances node (Some d) (s.queued at node d node_at), s.each)

  pub all_scanned : (distances : List (Option ℕ)) (queue : List (ℕ × ℕ)) (at : ℕ) → IsScanning E nodes to distances queue at → length queue ≤ at → AreDistances E nodes to distances
  all_scanned distances queue at s past = record {
    each = s.scan.each;
    here = s.scan.here;
    only_here = s.scan.only_here;
    nearer = s.scan.nearer;
    near = λ x next d edge at_next. (let r = s.scan.found next d at_next in
        s.scan.scanned r.0 x next d (omega (arith, past, slice_get_within queue r.0 (next, d) r.1)) r.1 edge);
  }

-- a group of nodes from which an edge leads to the node
pub group_into : (table : List (List ℕ)) (node : ℕ) (group : List ℕ) → slice_get table node ≡ Some group → (x : ℕ) → Has group x → JoinsBack table x node
group_into table node group is x has = (group, is, has)

pub group_out_of : (table : List (List ℕ)) (node : ℕ) (group : List ℕ) → slice_get table node ≡ Some group → (x : ℕ) → JoinsBack table x node → Has group x
group_out_of table node group is x joins =
    let both : Some joins.0 ≡ Some group = sym joins.1 ∙ is in
    let same : joins.0 ≡ group = cc both in
    subst (λ (g : List ℕ). Has g x) same joins.2

pub begin_is : (table : List (List ℕ)) (to n : ℕ) → to < length table → n ≡ length table → (distances : List (Option ℕ)) (queue : List (ℕ × ℕ)) →
    distances ≡ replicate n None → queue ≡ (to, 0) ∷ [] → IsScanning (JoinsBack table) (length table) to (set distances to (Some 0)) queue 0
begin_is table to n low size distances queue distances_are queue_is = rw (distances_are, queue_is, size) (begin_scan (JoinsBack table) (length table) to low)
