-- Paths through the web are ways across it.
use Rattle.std.proofs.Common.{◌≡◌, ◌<◌, ◌+◌, ◌-◌, ℕ, List, [], ◌∷◌, ◌++◌, Some, length, map, slice_get, refl, sym, ap, ◌∙◌, subst, arith}
use Rattle.std.proofs.lemmas.List.{length-map}
use Rattle.std.specs.Prelude.{slice_index, slice_index_or}
use Rattle.std.specs.List.{Contains}
use Rattle.std.proofs.lemmas.Option.{get_or_from_slice_get, slice_get_within}
use Rattle.vtr_base.specs.Lists.{Has}
use Rattle.list_laws.proofs.Members.{at_has, from_map}
use Rattle.list_laws.proofs.Sorting.{ordered_of, one_sorting}
use Rattle.pb_expand.specs.declared.number.PinIx.{PinIx}
use Rattle.pb_expand.specs.Graph.{Graph, pin_ix}
use Rattle.task_types.specs.declared.task.Task.{Task}
use Rattle.task_types.specs.declared.decision.Decision.{Decision}
use Rattle.task_types.specs.Nets.{NetSaid}
use Rattle.task_types.specs.Open.{AllowsStep}
use Rattle.task_types.specs.Tidy.{IsWay, AreFirsts, LeadsAcross, HaveWays}
use Rattle.crowd_cuts.specs.Paths.{IsPath, AreDisjointPaths}
use Rattle.search_rules.specs.Closing.{AreUncrowded}
use Rattle.search_crowds.specs.Webs.{IsWeb}
use Rattle.search_crowds.proofs.Lists.{contains_has, mapped}

-- the last pin of a path
split_last : (x : ℕ) (xs : List ℕ) → (rest : List PinIx) × (map pin_ix (x ∷ xs) ≡ rest ++ pin_ix (slice_index (x ∷ xs) (length xs)) ∷ [])
split_last x [] = ([], refl)
split_last x (y ∷ ys) = let r = split_last y ys in (pin_ix x ∷ r.0, ap (λ l. pin_ix x ∷ l) r.1)

-- the needs are the only list of the nets' first ones
same_firsts : (t : Task) (made : List Decision) (xs ys : List ℕ) → AreFirsts t made xs → AreFirsts t made ys → xs ≡ ys
same_firsts t made xs ys by_xs by_ys =
    one_sorting ◌<◌ (λ x less. omega (arith, less)) (λ x y z less more. omega (arith, less, more)) xs ys
    (ordered_of ◌<◌ xs by_xs.ascending)
    (ordered_of ◌<◌ ys by_ys.ascending)
    (record { forth = λ x has. by_ys.exact_from x (by_xs.exact_to x has); back = λ x has. by_xs.exact_from x (by_ys.exact_to x has) })

module _ (g : Graph) (n : NetSaid) (t : Task) (made : List Decision) (needs : List ℕ) (edges : List (ℕ × ℕ)) (starts ends : List ℕ) (web : IsWeb g n t made needs edges starts ends) where
  way_of : (path : List ℕ) → IsPath edges starts ends path → IsWay g made (map pin_ix path)
  way_of path is = record {
    steps = λ k p q at_p at_q. (
        let from = mapped pin_ix path k p at_p in
        let to = mapped pin_ix path (k + 1) q at_q in
        let edge = is.along_edges k (slice_get_within path (k + 1) to.0 to.1) in
        let at_from = get_or_from_slice_get path k from.0 0 from.1 in
        let at_to = get_or_from_slice_get path (k + 1) to.0 0 to.1 in
        let there = contains_has edges (from.0, to.0) (subst (λ x. Contains {X = ℕ × ℕ} edges (from.0, x)) at_to (subst (λ x. Contains {X = ℕ × ℕ} edges (x, slice_index path (k + 1))) at_from edge)) in
        subst (λ (x : PinIx). AllowsStep g made x.0 q.0) from.2 (subst (λ (x : PinIx). AllowsStep g made from.0 x.0) to.2 (web.each from.0 to.0 there)));
  }

  across : (path : List ℕ) → IsPath edges starts ends path → LeadsAcross g n t made needs (map pin_ix path)
  across [] is = absurd (omega (arith, is.some_node))
  across (x ∷ xs) is =
      let split = split_last x xs in
      let z : ℕ = slice_index (x ∷ xs) (length xs) in
      let begin = (web.starts_of x (contains_has starts x is.from_start)).1 in
      let place : length (x ∷ xs) - 1 ≡ length xs = omega arith in
      let stop = web.ends_of z (contains_has ends z (subst (λ k. Contains ends (slice_index (x ∷ xs) k)) place is.to_end)) in
      record {
        is_way = way_of (x ∷ xs) is;
        last = pin_ix x;
        begins = refl;
        source = pin_ix z;
        rest = split.0;
        ends = split.1;
        one = begin.number;
        other = stop.number;
        one_of = begin.of;
        other_of = stop.of;
        end_need = begin.one.need;
        source_need = stop.need;
        is_one = begin.one.is;
        is_other = stop.is;
        is_end = begin.one.end;
        is_source = stop.start;
      }

  -- a pin of the way at that place, by its place on the path
  on_path : (paths : List (List ℕ)) (i : ℕ) (way : List PinIx) (p : PinIx) → slice_get (map (λ path. map pin_ix path) paths) i ≡ Some way → Has way p →
      (i < length paths) × ((k : ℕ) × (k < length (slice_index_or paths i [])) × (slice_index (slice_index_or paths i []) k ≡ p.0))
  on_path paths i way p at has =
      let from = mapped (λ path. map pin_ix path) paths i way at in
      let item = from_map pin_ix from.0 p (subst (λ l. Has l p) (sym from.2) has) in
      let place = at_has from.0 item.item item.has in
      let path : slice_index_or paths i [] ≡ from.0 = get_or_from_slice_get paths i from.0 [] from.1 in
      let pin : item.item ≡ p.0 = sym (ap (λ (x : PinIx). x.0) item.is) in (
        slice_get_within paths i from.0 from.1,
        (
          place.0,
          subst (λ l. place.0 < length l) (sym path) (slice_get_within from.0 place.0 item.item place.1),
          subst (λ l. slice_index l place.0 ≡ p.0) (sym path) (get_or_from_slice_get from.0 place.0 item.item 0 place.1 ∙ pin),
        ),
      )

  ways : (paths : List (List ℕ)) → AreDisjointPaths edges starts ends (length needs) paths → HaveWays g n t made needs
  ways paths are = record {
    ways = map (λ path. map pin_ix path) paths;
    each = length-map paths (λ path. map pin_ix path) ∙ are.as_many;
    across = λ way has. (
        let from = from_map (λ path. map pin_ix path) paths way has in
        let place = at_has paths from.item from.has in
        let path : slice_index_or paths place.0 [] ≡ from.item = get_or_from_slice_get paths place.0 from.item [] place.1 in
        let is = subst (λ l. IsPath edges starts ends l) path (are.are_paths place.0 (slice_get_within paths place.0 from.item place.1)) in
        subst (λ w. LeadsAcross g n t made needs w) (sym from.is) (across from.item is));
    apart = λ i j a b p at_i at_j has_a has_b. (
        let one = on_path paths i a p at_i has_a in
        let other = on_path paths j b p at_j has_b in
        (are.disjoint i j one.1.0 other.1.0 one.0 other.0 one.1.1 other.1.1 (one.1.2 ∙ sym other.1.2)).0);
  }

  pub paths_uncrowd : (paths : List (List ℕ)) → AreFirsts t made needs → AreDisjointPaths edges starts ends (length needs) paths → AreUncrowded g n t made
  paths_uncrowd paths firsts are = record {
    ways = λ others they. subst (λ l. HaveWays g n t made l) (same_firsts t made needs others firsts they) (ways paths are);
  }
