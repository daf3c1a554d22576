-- Pins that all paths through the web meet are those of a crowd.
use Rattle.std.proofs.Common.{◌≡◌, ◌≢◌, ◌<◌, ◌+◌, ◌-◌, inl, inr, ℕ, zero, suc, List, [], ◌∷◌, Some, length, map, slice_get, sym, ap, ◌∙◌, subst, arith}
use Rattle.std.proofs.lemmas.List.{length-map}
use Rattle.std.specs.Prelude.{slice_index}
use Rattle.std.specs.List.{Contains}
use Rattle.std.proofs.lemmas.Option.{get_or_from_slice_get, slice_get_within}
use Rattle.std.proofs.lemmas.List.Elements.{Contains-get_or}
use Rattle.vtr_base.specs.Lists.{Has}
use Rattle.list_laws.proofs.Members.{has_at, at_has, has_map, from_map}
use Rattle.pb_expand.specs.declared.number.PinIx.{PinIx}
use Rattle.pb_expand.specs.Graph.{Graph, pin_ix}
use Rattle.task_types.specs.declared.task.Task.{Task}
use Rattle.task_types.specs.declared.task.Need.{Need}
use Rattle.task_types.specs.declared.tree.TreeNode.TheVariants.{Crowd}
use Rattle.task_types.specs.declared.decision.Decision.{Decision}
use Rattle.task_types.specs.Nets.{NetSaid}
use Rattle.task_types.specs.Ends.{net_of}
use Rattle.task_types.specs.Open.{MayEnd, MayStart}
use Rattle.task_types.specs.Nodes.{IsFreeWay, IsCrowd}
use Rattle.task_types.specs.Tidy.{AreFirsts}
use Rattle.crowd_cuts.specs.Paths.{IsPath, IsSmallCut}
use Rattle.search_rules.specs.Closing.{Closes}
use Rattle.search_crowds.specs.Webs.{IsWeb}
use Rattle.search_crowds.proofs.Lists.{contains_has, has_contains, all_of_has}

some_same : {X : Type 0} {x y : X} → Some x ≡ Some y → x ≡ y
some_same e = cc

-- a path from p to q past the pins
record IsWalk (edges : List (ℕ × ℕ)) (pins : List PinIx) (p q : ℕ) (rest : List ℕ) : Type 0 where
  along : (i : ℕ) → suc i < length (p ∷ rest) → Contains {X = ℕ × ℕ} edges (slice_index (p ∷ rest) i, slice_index (p ∷ rest) (suc i))
  stops : slice_index (p ∷ rest) (length rest) ≡ q
  free : (x : ℕ) → Has (p ∷ rest) x → Has pins (pin_ix x) → ⊥

one_more : (edges : List (ℕ × ℕ)) (pins : List PinIx) (p x q : ℕ) (rest : List ℕ) → (Has pins (pin_ix p) → ⊥) → Contains {X = ℕ × ℕ} edges (p, x) → IsWalk edges pins x q rest → IsWalk edges pins p q (x ∷ rest)
one_more edges pins p x q rest free edge walk = record { along = along; stops = walk.stops; free = frees }
  where
    along : (i : ℕ) → suc i < length (p ∷ x ∷ rest) → Contains {X = ℕ × ℕ} edges (slice_index (p ∷ x ∷ rest) i, slice_index (p ∷ x ∷ rest) (suc i))
    along zero less = edge
    along (suc i) less = walk.along i (omega (arith, less))

    frees : (y : ℕ) → Has (p ∷ x ∷ rest) y → Has pins (pin_ix y) → ⊥
    frees y (inl same) has = free (subst (λ z. Has pins (pin_ix z)) same has)
    frees y (inr later) has = walk.free y later has

module _ (g : Graph) (n : NetSaid) (t : Task) (made : List Decision) (needs : List ℕ) (edges : List (ℕ × ℕ)) (starts ends : List ℕ) (web : IsWeb g n t made needs edges starts ends) where
  walk_of : (pins : List PinIx) (steps p q : ℕ) → Has web.reached p → IsFreeWay g made pins steps p q → (rest : List ℕ) × IsWalk edges pins p q rest × Has web.reached q
  walk_of pins zero p q has way = (
    [],
    record { along = λ i less. absurd (omega (arith, less)); stops = way.1; free = λ x is there. frees x is there },
    subst (λ x. Has web.reached x) way.1 has,
  )
    where
      frees : (x : ℕ) → Has (p ∷ []) x → Has pins (pin_ix x) → ⊥
      frees x (inl same) there = way.0 (subst (λ z. Has pins (pin_ix z)) same there)
      frees x (inr none) there = none
  walk_of pins (suc steps) p q has way =
      let step = web.all p way.1.0 has way.1.1 in
      let r = walk_of pins steps way.1.0 q step.1 way.1.2 in
      (way.1.0 ∷ r.0, one_more edges pins p way.1.0 q r.0 way.0 (has_contains edges (p, way.1.0) step.0) r.1, r.2)

  module _ (firsts : AreFirsts t made needs) (cut : List ℕ) (is : IsSmallCut (length g.pins) edges starts ends (length needs) cut) where
    blocked : (number steps p q : ℕ) (need : Need) → Has needs number → slice_get t.needs number ≡ Some need → MayEnd g n t made need p → MayStart g n t made need q → IsFreeWay g made (map pin_ix cut) steps p q → ⊥
    blocked number steps p q need has at end start way =
        let begins = web.all_starts p (record { number = number; of = has; one = record { need = need; is = at; end = end } }) in
        let walk = walk_of (map pin_ix cut) steps p q (web.starts_of p begins).0 way in
        let last = web.all_ends q walk.2 (record { number = number; of = has; need = need; is = at; start = start }) in
        let place : length walk.0 ≡ length (p ∷ walk.0) - 1 = omega arith in
        let path : IsPath edges starts ends (p ∷ walk.0) = record {
          some_node = omega arith;
          from_start = has_contains starts p begins;
          along_edges = λ i less. (
              let next : suc i ≡ i + 1 = omega arith in
              subst (λ k. Contains {X = ℕ × ℕ} edges (slice_index (p ∷ walk.0) i, slice_index (p ∷ walk.0) k)) next (walk.1.along i (omega (arith, less))));
          to_end = subst (λ k. Contains ends (slice_index (p ∷ walk.0) k)) place (subst (λ x. Contains ends x) (sym walk.1.stops) (has_contains ends q last));
        } in
        let met = is.met (p ∷ walk.0) path in
        let x : ℕ = slice_index (p ∷ walk.0) met.0 in
        walk.1.free x (contains_has (p ∷ walk.0) x (Contains-get_or (p ∷ walk.0) met.0 0 met.1)) (has_map pin_ix cut x (contains_has cut x met.2))

    apart : (j k x y : ℕ) (a b : Need) → j < k → slice_get needs j ≡ Some x → slice_get needs k ≡ Some y → slice_get t.needs x ≡ Some a → slice_get t.needs y ≡ Some b → net_of a ≢ net_of b
    apart j k x y a b less at_j at_k is_a is_b same =
        let one = firsts.exact_to x (has_at needs j x at_j) in
        let other = firsts.exact_to y (has_at needs k y at_k) in
        let same_a : one.need ≡ a = some_same (sym one.active.is ∙ is_a) in
        let same_b : b ≡ other.need = some_same (sym is_b ∙ other.active.is) in
        other.first x one.need (firsts.ascending j k x y less at_j at_k) one.active one.fed (ap (λ (z : Need). net_of z) same_a ∙ same ∙ ap (λ (z : Need). net_of z) same_b)

    crowd : IsCrowd g n t made needs (map pin_ix cut)
    crowd = record {
      active = λ number has. (let f = firsts.exact_to number has in (f.need, f.active));
      apart = apart;
      fewer = omega (arith, length-map cut pin_ix, is.fewer);
      blocked = blocked;
    }

    pin_inside : (pin : PinIx) → Has (map pin_ix cut) pin → pin.0 < length g.pins
    pin_inside pin has =
        let from = from_map pin_ix cut pin has in
        let place = at_has cut from.item from.has in
        let less = is.are_nodes place.0 (slice_get_within cut place.0 from.item place.1) in
        let same : from.item ≡ pin.0 = sym (ap (λ (x : PinIx). x.0) from.is) in
        subst (λ x. x < length g.pins) (get_or_from_slice_get cut place.0 from.item 0 place.1 ∙ same) less

    pub cut_closes : Closes g n t made (Crowd needs (map pin_ix cut))
    cut_closes = record {
      closing = tt;
      accepted = crowd;
      inside = (
        all_of_has (λ (need : ℕ). need < length t.needs) needs 0 (λ number has. (let f = firsts.exact_to number has in slice_get_within t.needs number f.need f.active.is)),
        all_of_has (λ (pin : PinIx). pin.0 < length g.pins) (map pin_ix cut) (pin_ix 0) pin_inside,
      );
    }
