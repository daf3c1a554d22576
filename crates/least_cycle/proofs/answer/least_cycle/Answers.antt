use Rattle.std.proofs.Common.{◌≡◌, ◌∙◌, ℕ, List, length, map, ap, arith}
use Rattle.flat_tables.specs.Groups.{groups_of}
use Rattle.flat_tables.proofs.Laws.{groups_count}
use Rattle.least_cycle.proofs.Answering.{turn, between_of, keys_low, table_nodes, turned_between, distances_of, distances_on, ranked, on_cycle, is_least, first_low}
use Rattle.least_cycle.proofs.answer.least_cycle.Goals as goal

pub from_pairs-requires-clause-keys : goal.from_pairs-requires-clause-keys
from_pairs-requires-clause-keys c = keys_low c.args.edges.now c.args.nodes (between_of c.args.nodes c.args.edges.now c.requires.edges)

pub component_ranks-requires-clause-long : goal.component_ranks-requires-clause-long
component_ranks-requires-clause-long c = rw c.in_ok-nexts.ensures (groups_count c.args.edges.now c.args.nodes)

pub component_ranks-requires-clause-nodes : goal.component_ranks-requires-clause-nodes
component_ranks-requires-clause-nodes c = rw c.in_ok-nexts.ensures (table_nodes c.args.edges.now c.args.nodes (between_of c.args.nodes c.args.edges.now c.requires.edges))

pub least_level-requires : goal.least_level-requires
least_level-requires c from to edge =
    let low = between_of c.args.nodes c.args.edges.now c.requires.edges from to edge in
    let size : length c.as_slice.result.now ≡ length c.in_ok-ranks.ranks.items = ap (λ (xs : List ℕ). length xs) c.as_slice.ensures.value in
    (omega (arith, low.0, size, c.in_ok-ranks.ensures.each), omega (arith, low.1, size, c.in_ok-ranks.ensures.each))

pub returns-in-None : goal.returns-in-None
returns-in-None c =
    let components = rw c.in_ok-nexts.ensures at c.in_ok-ranks.ensures in
    let none = rw c.as_slice.ensures.value at c.in-None.ensures in
    rw c.from_vec.ensures (ranked c.args.nodes c.args.edges.now (between_of c.args.nodes c.args.edges.now c.requires.edges) c.in_ok-ranks.ranks.items components none)

pub from_pairs-requires-in-Some-clause-keys : goal.from_pairs-requires-in-Some-clause-keys
from_pairs-requires-in-Some-clause-keys c =
    let turned_is = c.as_slice-in-Some.ensures.value ∙ c.in_ok-turned-in-Some.ensures in
    rw turned_is (keys_low (map turn c.args.edges.now) c.args.nodes (turned_between c.args.nodes c.args.edges.now (between_of c.args.nodes c.args.edges.now c.requires.edges)))

pub distances-requires-clause-nodes : goal.distances-requires-clause-nodes
distances-requires-clause-nodes c =
    let turned_is = c.as_slice-in-Some.ensures.value ∙ c.in_ok-turned-in-Some.ensures in
    let prevs_is = c.in_ok-prevs-in-Some.ensures ∙ ap (λ (es : List (ℕ × ℕ)). groups_of es c.args.nodes) turned_is in
    rw prevs_is (table_nodes (map turn c.args.edges.now) c.args.nodes (turned_between c.args.nodes c.args.edges.now (between_of c.args.nodes c.args.edges.now c.requires.edges)))

pub distances-requires-clause-to : goal.distances-requires-clause-to
distances-requires-clause-to c =
    let components = rw c.in_ok-nexts.ensures at c.in_ok-ranks.ensures in
    let least = rw c.as_slice.ensures.value at c.in-Some.ensures in
    let turned_is = c.as_slice-in-Some.ensures.value ∙ c.in_ok-turned-in-Some.ensures in
    let prevs_is = c.in_ok-prevs-in-Some.ensures ∙ ap (λ (es : List (ℕ × ℕ)). groups_of es c.args.nodes) turned_is in
    let low = first_low c.args.nodes c.args.edges.now (between_of c.args.nodes c.args.edges.now c.requires.edges) c.in_ok-ranks.ranks.items components c.in-Some.first least in
    rw prevs_is (omega (arith, low, groups_count (map turn c.args.edges.now) c.args.nodes))

pub distances-requires-clause-few : goal.distances-requires-clause-few
distances-requires-clause-few c =
    let turned_is = c.as_slice-in-Some.ensures.value ∙ c.in_ok-turned-in-Some.ensures in
    let prevs_is = c.in_ok-prevs-in-Some.ensures ∙ ap (λ (es : List (ℕ × ℕ)). groups_of es c.args.nodes) turned_is in
    rw prevs_is (omega (arith, groups_count (map turn c.args.edges.now) c.args.nodes))

pub least_way-requires-clause-nodes : goal.least_way-requires-clause-nodes
least_way-requires-clause-nodes c = rw c.in_ok-nexts.ensures (table_nodes c.args.edges.now c.args.nodes (between_of c.args.nodes c.args.edges.now c.requires.edges))

pub least_way-requires-clause-first : goal.least_way-requires-clause-first
least_way-requires-clause-first c =
    let components = rw c.in_ok-nexts.ensures at c.in_ok-ranks.ensures in
    let least = rw c.as_slice.ensures.value at c.in-Some.ensures in
    let low = first_low c.args.nodes c.args.edges.now (between_of c.args.nodes c.args.edges.now c.requires.edges) c.in_ok-ranks.ranks.items components c.in-Some.first least in
    rw c.in_ok-nexts.ensures (omega (arith, low, groups_count c.args.edges.now c.args.nodes))

pub least_way-requires-clause-distances : goal.least_way-requires-clause-distances
least_way-requires-clause-distances c =
    let turned_is = c.as_slice-in-Some.ensures.value ∙ c.in_ok-turned-in-Some.ensures in
    let prevs_is = c.in_ok-prevs-in-Some.ensures ∙ ap (λ (es : List (ℕ × ℕ)). groups_of es c.args.nodes) turned_is in
    let given = rw prevs_is at c.in_ok-distances-in-Some.ensures in
    let are = distances_of c.args.nodes c.args.edges.now (between_of c.args.nodes c.args.edges.now c.requires.edges) c.in-Some.first c.in_ok-distances-in-Some.distances.items given in
    rw (c.in_ok-nexts.ensures, c.as_slice-in-Some-2.ensures.value) (distances_on c.args.nodes c.args.edges.now (between_of c.args.nodes c.args.edges.now c.requires.edges) c.in-Some.first c.in_ok-distances-in-Some.distances.items are)

pub least_way-requires-clause-on_cycle : goal.least_way-requires-clause-on_cycle
least_way-requires-clause-on_cycle c =
    let components = rw c.in_ok-nexts.ensures at c.in_ok-ranks.ensures in
    let least = rw c.as_slice.ensures.value at c.in-Some.ensures in
    let turned_is = c.as_slice-in-Some.ensures.value ∙ c.in_ok-turned-in-Some.ensures in
    let prevs_is = c.in_ok-prevs-in-Some.ensures ∙ ap (λ (es : List (ℕ × ℕ)). groups_of es c.args.nodes) turned_is in
    let given = rw prevs_is at c.in_ok-distances-in-Some.ensures in
    let are = distances_of c.args.nodes c.args.edges.now (between_of c.args.nodes c.args.edges.now c.requires.edges) c.in-Some.first c.in_ok-distances-in-Some.distances.items given in
    rw (c.in_ok-nexts.ensures, c.as_slice-in-Some-2.ensures.value)
    (on_cycle c.args.nodes c.args.edges.now (between_of c.args.nodes c.args.edges.now c.requires.edges) c.in_ok-ranks.ranks.items components c.in-Some.first least c.in_ok-distances-in-Some.distances.items are)

pub returns : goal.returns
returns c =
    let components = rw c.in_ok-nexts.ensures at c.in_ok-ranks.ensures in
    let least = rw c.as_slice.ensures.value at c.in-Some.ensures in
    let turned_is = c.as_slice-in-Some.ensures.value ∙ c.in_ok-turned-in-Some.ensures in
    let prevs_is = c.in_ok-prevs-in-Some.ensures ∙ ap (λ (es : List (ℕ × ℕ)). groups_of es c.args.nodes) turned_is in
    let given = rw prevs_is at c.in_ok-distances-in-Some.ensures in
    let are = distances_of c.args.nodes c.args.edges.now (between_of c.args.nodes c.args.edges.now c.requires.edges) c.in-Some.first c.in_ok-distances-in-Some.distances.items given in
    let way = rw (c.in_ok-nexts.ensures, c.as_slice-in-Some-2.ensures.value) at c.in_ok-cycle-in-Some.ensures in
    is_least c.args.nodes c.args.edges.now (between_of c.args.nodes c.args.edges.now c.requires.edges) c.in_ok-ranks.ranks.items components c.in-Some.first least c.in_ok-distances-in-Some.distances.items are c.in_ok-cycle-in-Some.cycle way
