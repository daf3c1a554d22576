-- A placing of the left numbers is one of the blocks, and so is a violator.
use Rattle.place_match.proofs.Reduction.{placed, none_placed, outnumbers}
use Rattle.place_match.proofs.places.first_places.Goals as goal

pub returns-in-None-clause-placed : goal.returns-in-None-clause-placed
returns-in-None-clause-placed c =
    placed _ _ _ _ _ c.in_ok-matching.ensures (rw c.in_ok-complete.ensures.graph.graph at c.in_ok-places-in-None.ensures.placing)

pub returns-clause-refused : goal.returns-clause-refused
returns-clause-refused c =
    let told = rw c.in-Some.is at c.in_ok-complete.ensures.violator in
    outnumbers _ _ _ _ _ _ c.in_ok-matching.ensures (rw c.in_ok-complete.ensures.graph.graph at told)

pub returns-clause-none : goal.returns-clause-none
returns-clause-none c =
    let told = rw c.in-Some.is at c.in_ok-complete.ensures.none in
    none_placed _ _ _ _ c.in_ok-matching.ensures (rw c.in_ok-complete.ensures.graph.graph at told)
