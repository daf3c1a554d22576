use Rattle.std.proofs.Common.{ℕ, List, length, ap, ◌∙◌, arith}
use Rattle.std.proofs.lemmas.List.FromFn.{length-range_with_len}
use Rattle.matching.specs.Bipartite.{State}
use Rattle.search_homes.proofs.Matched.{rows_inside, pairs_inside, houses, closes}
use Rattle.search_homes.proofs.homes.find_homeless.Goals as goal

pub new-requires-clause-rows : goal.new-requires-clause-rows
new-requires-clause-rows c = rows_inside c.in_ok-rows.rows.items c.len-atoms.result c.in_ok-rows.ensures

pub new-requires-clause-pairs : goal.new-requires-clause-pairs
new-requires-clause-pairs c =
    pairs_inside c.args.graph.now c.args.task.now c.args.trail.now.made c.in_ok-pairs.pairs.items c.len-atoms.result c.pbs.result c.requires.task c.in_ok-pairs.ensures c.len-atoms.ensures c.pbs.ensures

pub returns-in-None-clause-housed : goal.returns-in-None-clause-housed
returns-in-None-clause-housed c =
    let placed = rw c.in-None.is at c.in_ok-complete.ensures.placed in
    houses c.args.graph.now c.args.task.now c.args.trail.now.made c.in_ok-pairs.pairs.items c.len-atoms.result c.in_ok-rows.rows.items c.in_ok-pairs.ensures c.len-atoms.ensures c.in_ok-rows.ensures c.complete.new.self (c.in_ok-complete.ensures.graph.graph ∙ ap (λ (m : State). m.graph) c.in_ok-matching.ensures) c.law.ensures placed

pub returns-clause-closes : goal.returns-clause-closes
returns-clause-closes c =
    let violator = rw c.in-Some.is at c.in_ok-complete.ensures.violator in
    closes c.args.graph.now c.args.task.now c.args.trail.now.made c.in_ok-pairs.pairs.items c.len-atoms.result c.in_ok-rows.rows.items c.in_ok-pairs.ensures c.len-atoms.ensures c.in_ok-rows.ensures c.complete.new.self (c.in_ok-complete.ensures.graph.graph ∙ ap (λ (m : State). m.graph) c.in_ok-matching.ensures) c.in-Some.stuck.lefts.items c.in-Some.stuck.rights.items c.from_vec.result c.from_vec.ensures violator

pub new-requires-clause-few_lefts : goal.new-requires-clause-few_lefts
new-requires-clause-few_lefts c =
    let long = ap (λ (l : List ℕ). length l) c.in_ok-rows.ensures in
    omega (arith, long, length-range_with_len 0 c.len-atoms.result, c.len-atoms.ensures, c.requires.task.few_atoms)
