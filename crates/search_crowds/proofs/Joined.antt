-- Flows and first needs, tied to what callers ask.
use Rattle.std.proofs.Common.{◌≡◌, ◌<◌, ℕ, List, [], length, map, get_or, subst}
use Rattle.std.specs.List.{All}
use Rattle.std.proofs.lemmas.Option.{slice_get_within, slice_get-get_or}
use Rattle.std.proofs.lemmas.List.Elements.{All-from_get_or}
use Rattle.vtr_base.specs.Lists.{Has}
use Rattle.list_laws.proofs.Members.{has_at}
use Rattle.pb_expand.specs.Graph.{Graph, pin_ix}
use Rattle.task_types.specs.declared.task.Task.{Task}
use Rattle.task_types.specs.declared.tree.TreeNode.TheVariants.{Crowd}
use Rattle.task_types.specs.declared.decision.Decision.{Decision}
use Rattle.task_types.specs.Nets.{NetSaid}
use Rattle.task_types.specs.Tidy.{AreFirsts}
use Rattle.task_reach.specs.Gains.{Gains, FromFirst, FromItem}
use Rattle.crowd_cuts.specs.declared.graph.Flow.{Flow}
use Rattle.crowd_cuts.specs.declared.graph.Flow.TheVariants.{Paths, CutSet}
use Rattle.crowd_cuts.specs.Answer.{IsFlow}
use Rattle.search_rules.specs.Closing.{Closes, AreUncrowded}
use Rattle.search_crowds.specs.Webs.{EndsOne, AreSources, IsSpread, IsFlowOf}
use Rattle.search_crowds.proofs.Webbing.{web_of}
use Rattle.search_crowds.proofs.Across.{paths_uncrowd}
use Rattle.search_crowds.proofs.Crossing.{cut_closes}

-- needs of the nets are needs of the task
pub first_inside : (t : Task) (made : List Decision) (needs : List ℕ) (number : ℕ) → AreFirsts t made needs → Has needs number → number < length t.needs
first_inside t made needs number firsts has = let f = firsts.exact_to number has in slice_get_within t.needs number f.need f.active.is

-- edges and sources are among what is reached, which is below the limit
pub edges_inside : (g : Graph) (made : List Decision) (first reached : List ℕ) (at nodes : ℕ) (edges : List (ℕ × ℕ)) → ((p : ℕ) → Has reached p → p < nodes) → IsSpread g made first reached at edges →
    All {X = ℕ × ℕ} (λ edge. (edge.0 < nodes) × (edge.1 < nodes)) edges
edges_inside g made first reached at nodes edges inside spread =
    All-from_get_or {X = ℕ × ℕ} (λ edge. (edge.0 < nodes) × (edge.1 < nodes)) edges (0, 0) (λ k less.
    let e : ℕ × ℕ = get_or {A = ℕ × ℕ} edges k (0, 0) in
    let r = spread.each e.0 e.1 (has_at {X = ℕ × ℕ} edges k e (slice_get-get_or {X = ℕ × ℕ} edges k (0, 0) less)) in
    (inside e.0 r.0, inside e.1 r.1))

pub firsts_inside : (g : Graph) (made : List Decision) (first reached : List ℕ) (at nodes : ℕ) (edges : List (ℕ × ℕ)) → ((p : ℕ) → Has reached p → p < nodes) → IsSpread g made first reached at edges → All (λ (p : ℕ). p < nodes) first
firsts_inside g made first reached at nodes edges inside spread =
    All-from_get_or (λ (p : ℕ). p < nodes) first 0 (λ k less. inside (get_or first k 0) (spread.kept (get_or first k 0) (has_at first k (get_or first k 0) (slice_get-get_or first k 0 less))))

pub sources_inside : (g : Graph) (n : NetSaid) (t : Task) (made : List Decision) (needs reached sources : List ℕ) (nodes : ℕ) → ((p : ℕ) → Has reached p → p < nodes) → AreSources g n t made needs reached sources →
    All (λ (p : ℕ). p < nodes) sources
sources_inside g n t made needs reached sources nodes inside are =
    All-from_get_or (λ (p : ℕ). p < nodes) sources 0 (λ k less. inside (get_or sources k 0) (are.each (get_or sources k 0) (has_at sources k (get_or sources k 0) (slice_get-get_or sources k 0 less))).0)

-- paths, or a cut, of the web that was gathered
pub flow_at : (g : Graph) (n : NetSaid) (t : Task) (made : List Decision) (needs none first lent_first reached lent_reached sources lent_sources : List ℕ) (edges lent_edges : List (ℕ × ℕ)) (nodes : ℕ) (flow : Flow) →
    none ≡ [] → lent_first ≡ first → lent_reached ≡ reached → lent_sources ≡ sources → lent_edges ≡ edges → nodes ≡ length g.pins →
    Gains none first (FromFirst (FromItem needs (EndsOne g n t made)) (length needs)) → IsSpread g made first reached (length reached) edges → AreSources g n t made needs lent_reached sources →
    IsFlow nodes lent_edges lent_first lent_sources (length needs) flow → IsFlowOf g n t made needs flow
flow_at g n t made needs none first lent_first reached lent_reached sources lent_sources edges lent_edges nodes flow empty same_first same_reached same_sources same_edges all gains spread are is = record {
  edges = edges;
  starts = first;
  ends = sources;
  web = web_of g n t made needs first reached sources edges (subst (λ (l : List ℕ). Gains l first (FromFirst (FromItem needs (EndsOne g n t made)) (length needs))) empty gains) spread
      (subst (λ (l : List ℕ). AreSources g n t made needs l sources) same_reached are);
  is =
      let by_edges = subst (λ (l : List (ℕ × ℕ)). IsFlow nodes l lent_first lent_sources (length needs) flow) same_edges is in
      let by_first = subst (λ (l : List ℕ). IsFlow nodes edges l lent_sources (length needs) flow) same_first by_edges in
      let by_sources = subst (λ (l : List ℕ). IsFlow nodes edges first l (length needs) flow) same_sources by_first in
      subst (λ (k : ℕ). IsFlow k edges first sources (length needs) flow) all by_sources;
}

-- what a flow says
pub closes_at : (g : Graph) (n : NetSaid) (t : Task) (made : List Decision) (needs cut : List ℕ) (flow : Flow) → flow ≡ CutSet cut → AreFirsts t made needs → IsFlowOf g n t made needs flow → Closes g n t made (Crowd needs (map pin_ix cut))
closes_at g n t made needs cut flow is firsts of =
    cut_closes g n t made needs of.edges of.starts of.ends of.web firsts cut (subst (λ (f : Flow). IsFlow (length g.pins) of.edges of.starts of.ends (length needs) f) is of.is)

pub uncrowded_at : (g : Graph) (n : NetSaid) (t : Task) (made : List Decision) (needs : List ℕ) (paths : List (List ℕ)) (flow : Flow) → flow ≡ Paths paths → AreFirsts t made needs → IsFlowOf g n t made needs flow → AreUncrowded g n t made
uncrowded_at g n t made needs paths flow is firsts of =
    paths_uncrowd g n t made needs of.edges of.starts of.ends of.web paths firsts (subst (λ (f : Flow). IsFlow (length g.pins) of.edges of.starts of.ends (length needs) f) is of.is)
