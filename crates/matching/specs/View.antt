-- How contracts see a matching, and what holds of its fields.
use Rattle.matching.specs.declared.state.Matching.TheInside.{Inside}
use Rattle.matching.specs.Bipartite.{State}
use Rattle.matching.specs.Inside.{IsSoundMatching}

abbrev pub state_of : Inside → State
state_of m = record { graph = record { rows = m.rows.of.items; pairs = m.rows.pairs.items }; place = m.place.items; owner = m.owner.items }

abbrev pub IsWell : Inside → Type 0
IsWell m =
    IsSoundMatching m.rows.of.items m.rows.pairs.items m.rows.head.items m.rows.next.items m.cursor.items m.place.items m.owner.items m.seen.items m.scanned.items
