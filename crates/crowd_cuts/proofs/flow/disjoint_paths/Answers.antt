-- Trails are paths, and where the placing got stuck there is a cut.
use Rattle.crowd_cuts.proofs.CutLemmas.{all_nodes_are_cut, unmarked_is_cut}
use Rattle.crowd_cuts.proofs.Menger.{no_paths_past_cut}
use Rattle.crowd_cuts.proofs.ReductionLemmas.{between_from_all, nodes_from_all}
use Rattle.crowd_cuts.proofs.TrailLemmas.{trails_are_paths}
use Rattle.crowd_cuts.proofs.flow.disjoint_paths.Goals as goal

pub returns-then-count-graph-clause-flow : goal.returns-then-count-graph-clause-flow
returns-then-count-graph-clause-flow c =
    rw c.in_ok-all_nodes.ensures (all_nodes_are_cut _ _ _ _ _ c.if-count-graph.true (nodes_from_all _ _ c.requires.starts))

pub returns-then-count-graph-clause-no_paths : goal.returns-then-count-graph-clause-no_paths
returns-then-count-graph-clause-no_paths c =
    no_paths_past_cut (all_nodes_are_cut _ _ _ _ _ c.if-count-graph.true (nodes_from_all _ _ c.requires.starts))

pub returns-in-None-clause-flow : goal.returns-in-None-clause-flow
returns-in-None-clause-flow c =
    let placed = rw c.in_ok-complete.ensures.graph.graph at c.in_ok-places-in-None.ensures.placing in
    let trails = rw c.as_slice.ensures.value at c.in_ok-paths-in-None.ensures in
    trails_are_paths c.in_ok-placing.ensures placed trails (between_from_all _ _ c.requires.edges) (nodes_from_all _ _ c.requires.starts) (nodes_from_all _ _ c.requires.ends)

pub returns-clause-flow : goal.returns-clause-flow
returns-clause-flow c =
    let told = rw c.in-Some.is at c.in_ok-complete.ensures.violator in
    let violator = rw c.in_ok-complete.ensures.graph.graph at told in
    let cut = rw (c.as_slice-in-Some.ensures.value, c.as_slice-in-Some-2.ensures.value) at c.in_ok-cut-in-Some.ensures in
    unmarked_is_cut c.in_ok-placing.ensures violator (between_from_all _ _ c.requires.edges) (nodes_from_all _ _ c.requires.starts) (nodes_from_all _ _ c.requires.ends) cut

pub returns-clause-no_paths : goal.returns-clause-no_paths
returns-clause-no_paths c =
    no_paths_past_cut (returns-clause-flow c)
