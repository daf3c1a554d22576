-- From tables of edges to edges, and from the steps of the search to its answer.
use Rattle.std.proofs.Common.{◌≡◌, ◌<◌, ◌≤◌, ℕ, zero, suc, List, Option, Some, length, map, get_or, sym, ap, ◌∙◌, subst, inl, inr, arith}
use Rattle.std.specs.List.{All}
use Rattle.std.proofs.lemmas.Bool.{cases_eq}
use Rattle.std.proofs.lemmas.List.Elements.{All-from_get_or}
use Rattle.std.proofs.lemmas.Option.{slice_get_within, slice_get-get_or}
use Rattle.vtr_base.specs.Lists.{Has}
use Rattle.list_laws.proofs.Members.{each_has, has_at, has_map, from_map}
use Rattle.flat_tables.specs.Groups.{items_of, groups_of}
use Rattle.flat_tables.proofs.Laws.{groups_count, group_is, in_group, from_group}
use Rattle.least_cycle.specs.Cycles.{IsEdge, AreBetween, IsLeastCycle, IsRanking}
use Rattle.least_cycle.specs.Walks.{Joins, JoinsBack, AreNodes, Leads, AreComponentRanks, LeadsLevel, IsLeastOf, IsAt, AreDistances, IsLeastWay}
use Rattle.least_cycle.proofs.Cycling.{way_cycle, way_begins, way_least, way_once}
use Rattle.least_cycle.proofs.Ranking.{on_level}

abbrev pub turn : ℕ × ℕ → ℕ × ℕ
turn edge = (edge.1, edge.0)

-- what holds of each edge, by places
pub all_of : {X : Type 0} (P : X → Type 0) (xs : List X) (default : X) → ((x : X) → Has xs x → P x) → All P xs
all_of P xs default each = All-from_get_or P xs default (λ i low. each (get_or xs i default) (has_at xs i (get_or xs i default) (slice_get-get_or xs i default low)))

pub between_of : (nodes : ℕ) (edges : List (ℕ × ℕ)) → All (λ (edge : ℕ × ℕ). (edge.0 < nodes) × (edge.1 < nodes)) edges → AreBetween nodes edges
between_of nodes edges all from to has = each_has (λ (edge : ℕ × ℕ). (edge.0 < nodes) × (edge.1 < nodes)) edges all (from, to) has

module _ (edges : List (ℕ × ℕ)) (nodes : ℕ) (between : AreBetween nodes edges) where
  pub keys_low : All (λ (p : ℕ × ℕ). p.0 < nodes) edges
  keys_low = all_of (λ (p : ℕ × ℕ). p.0 < nodes) edges (0, 0) (λ p has. (between p.0 p.1 has).0)

  -- a table of edges and its edges
  pub table_out : (x y : ℕ) → Joins (groups_of edges nodes) x y → IsEdge edges x y
  table_out x y joins =
      let low : x < nodes = omega (arith, slice_get_within (groups_of edges nodes) x joins.0 joins.1, groups_count edges nodes) in
      let both : Some joins.0 ≡ Some (items_of edges x) = sym joins.1 ∙ group_is edges nodes x low in
      let same : joins.0 ≡ items_of edges x = cc both in
      from_group edges x y (subst (λ (g : List ℕ). Has g y) same joins.2)

  pub table_into : (x y : ℕ) → IsEdge edges x y → Joins (groups_of edges nodes) x y
  table_into x y edge = (items_of edges x, group_is edges nodes x (between x y edge).0, in_group edges x y edge)

  pub table_nodes : AreNodes (groups_of edges nodes)
  table_nodes x y joins = let low = (between x y (table_out x y joins)).1 in omega (arith, low, groups_count edges nodes)

-- edges the other way round
pub turned_has : (edges : List (ℕ × ℕ)) (x y : ℕ) → IsEdge edges x y → IsEdge (map turn edges) y x
turned_has edges x y edge = has_map turn edges (x, y) edge

pub turned_from : (edges : List (ℕ × ℕ)) (x y : ℕ) → IsEdge (map turn edges) y x → IsEdge edges x y
turned_from edges x y has =
    let r = from_map turn edges (y, x) has in
    let first : y ≡ r.item.1 = ap (λ (p : ℕ × ℕ). p.0) r.is in
    let second : x ≡ r.item.0 = ap (λ (p : ℕ × ℕ). p.1) r.is in
    let same : r.item ≡ (x, y) = ap (λ (n : ℕ). (n, r.item.1)) (sym second) ∙ ap (λ (n : ℕ). (x, n)) (sym first) in
    subst (λ (p : ℕ × ℕ). Has edges p) same r.has

pub turned_between : (nodes : ℕ) (edges : List (ℕ × ℕ)) → AreBetween nodes edges → AreBetween nodes (map turn edges)
turned_between nodes edges between y x has = let r = between x y (turned_from edges x y has) in (r.1, r.0)

module _ (nodes : ℕ) (edges : List (ℕ × ℕ)) (between : AreBetween nodes edges) where
  abbrev prevs : List (List ℕ)
  prevs = groups_of (map turn edges) nodes

  prevs_out : (x y : ℕ) → JoinsBack prevs x y → IsEdge edges x y
  prevs_out x y joins = turned_from edges x y (table_out (map turn edges) nodes (turned_between nodes edges between) y x joins)

  prevs_into : (x y : ℕ) → IsEdge edges x y → JoinsBack prevs x y
  prevs_into x y edge = table_into (map turn edges) nodes (turned_between nodes edges between) y x (turned_has edges x y edge)

  -- distances along the edges
  pub distances_of : (first : ℕ) (distances : List (Option ℕ)) → AreDistances (JoinsBack prevs) (length prevs) first distances → AreDistances (IsEdge edges) nodes first distances
  distances_of first distances are = record {
    each = are.each ∙ groups_count (map turn edges) nodes;
    here = are.here;
    only_here = are.only_here;
    nearer = λ x d at. (let r = are.nearer x d at in (r.0, prevs_out x r.0 r.1, r.2));
    near = λ x next d edge at. are.near x next d (prevs_into x next edge) at;
  }

  pub distances_on : (first : ℕ) (distances : List (Option ℕ)) → AreDistances (IsEdge edges) nodes first distances →
      AreDistances (Joins (groups_of edges nodes)) (length (groups_of edges nodes)) first distances
  distances_on first distances are = record {
    each = are.each ∙ sym (groups_count edges nodes);
    here = are.here;
    only_here = are.only_here;
    nearer = λ x d at. (let r = are.nearer x d at in (r.0, table_into edges nodes between x r.0 r.1, r.2));
    near = λ x next d joins at. are.near x next d (table_out edges nodes between x next joins) at;
  }

  -- what reaches the node has a distance to it
  leads_at : (first : ℕ) (distances : List (Option ℕ)) → AreDistances (IsEdge edges) nodes first distances → (n x : ℕ) → Leads (Joins (groups_of edges nodes)) n x first → (d : ℕ) × IsAt distances x d
  leads_at first distances are zero x is = (0, subst (λ (k : ℕ). IsAt distances k 0) (sym is) are.here)
  leads_at first distances are (suc n) x step =
      let rest = leads_at first distances are n step.0 step.2 in
      let r = are.near x step.0 rest.0 (table_out edges nodes between x step.0 step.1) rest.1 in
      (r.0, r.1)

  module _ (ranks : List ℕ) (components : AreComponentRanks (Joins (groups_of edges nodes)) nodes ranks) where
    never_fall : (from to : ℕ) → IsEdge edges from to → get_or ranks from 0 ≤ get_or ranks to 0
    never_fall from to edge = components.never_fall from to (table_into edges nodes between from to edge)

    pub ranked : ((n : ℕ) → LeadsLevel edges ranks n → ⊥) → IsRanking nodes edges ranks
    ranked none = record {
      each = components.each;
      rises = λ from to edge. (
          let up = never_fall from to edge in
          elim (cases_eq (get_or ranks from 0) (get_or ranks to 0)) [
            | inl level ↦ absurd (none from (to, edge, level))
            | inr differ ↦ omega (arith, up, differ)
          ]);
    }

    module _ (first : ℕ) (least : IsLeastOf (LeadsLevel edges ranks) first) (distances : List (Option ℕ)) (are : AreDistances (IsEdge edges) nodes first distances) where
      pub on_cycle : (next : ℕ) × (d : ℕ) × Joins (groups_of edges nodes) first next × IsAt distances next d
      on_cycle =
          let joins = table_into edges nodes between first least.holds.0 least.holds.1 in
          let back = components.back first least.holds.0 joins least.holds.2 in
          let at = leads_at first distances are back.0 least.holds.0 back.1 in
          (least.holds.0, at.0, joins, at.1)

      pub is_least : (cycle : List ℕ) → IsLeastWay (groups_of edges nodes) distances first cycle → IsLeastCycle edges cycle
      is_least cycle way =
          let out = table_out edges nodes between in
          let into = table_into edges nodes between in
          let begins = way_begins edges nodes first distances are (groups_of edges nodes) out into cycle way in
          record {
            is_cycle = way_cycle edges nodes first distances are (groups_of edges nodes) out into cycle way;
            least_node = λ node lies. subst (λ (n : ℕ). n ≤ node) (sym begins) (least.below node (on_level edges ranks never_fall node lies));
            least = way_least edges nodes first distances are (groups_of edges nodes) out into cycle way;
            once = way_once edges nodes first distances are (groups_of edges nodes) out into cycle way;
          }

    pub first_low : (first : ℕ) → IsLeastOf (LeadsLevel edges ranks) first → first < nodes
    first_low first least = (between first least.holds.0 least.holds.1).0
