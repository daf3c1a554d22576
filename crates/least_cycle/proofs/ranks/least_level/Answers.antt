use Rattle.std.proofs.Common.{ℕ, List, take, get_or, sym, subst}
use Rattle.std.proofs.lemmas.List.{take_all, take_more}
use Rattle.std.proofs.lemmas.Option.{slice_get-get_or}
use Rattle.list_laws.proofs.Members.{has_at}
use Rattle.least_cycle.specs.Cycles.{IsEdge}
use Rattle.least_cycle.specs.Walks.{LeadsLevel, IsLeastIfAny}
use Rattle.least_cycle.proofs.Least.{level_more, level_same}
use Rattle.least_cycle.proofs.ranks.least_level.Goals as goal
use Rattle.least_cycle.proofs.ranks.least_level.Goals.{then-ranks-edge, else-ranks-edge}

abbrev first : ℕ × ℕ
first = (0, 0)

pub loop-edge-init : goal.loop-edge-init
loop-edge-init c n leads = absurd leads.1

pub bounds-ranks-edge : goal.bounds-ranks-edge
bounds-ranks-edge c =
    let e = get_or c.args.edges.now c.loop-edge.edge-index first in
    let has : IsEdge c.args.edges.now e.0 e.1 = has_at c.args.edges.now c.loop-edge.edge-index e (slice_get-get_or c.args.edges.now c.loop-edge.edge-index first c.loop-edge-test.true) in
    (c.requires e.0 e.1 has).0

pub bounds-ranks-edge-in-loop-edge : goal.bounds-ranks-edge-in-loop-edge
bounds-ranks-edge-in-loop-edge c =
    let e = get_or c.args.edges.now c.loop-edge.edge-index first in
    let has : IsEdge c.args.edges.now e.0 e.1 = has_at c.args.edges.now c.loop-edge.edge-index e (slice_get-get_or c.args.edges.now c.loop-edge.edge-index first c.loop-edge-test.true) in
    (c.requires e.0 e.1 has).1

pub loop-edge-preserved : goal.loop-edge-preserved
loop-edge-preserved c =
    let e = get_or c.args.edges.now c.loop-edge.edge-index first in
    let done = take c.loop-edge.edge-index c.args.edges.now in
    subst (λ (es : List (ℕ × ℕ)). IsLeastIfAny (LeadsLevel es c.args.ranks.now) c.if-ranks-edge.least) (sym (take_more c.args.edges.now c.loop-edge.edge-index first c.loop-edge-test.true))
    (elim c.if-ranks-edge.branch [
      | then-ranks-edge w ↦ rw w.least-is (level_more done e c.args.ranks.now c.loop-edge.least c.loop-edge.invariant w.if-ranks-edge.true w.lower.result w.lower.ensures)
      | else-ranks-edge w ↦ rw w.least-is (level_same done e c.args.ranks.now c.loop-edge.least c.loop-edge.invariant w.if-ranks-edge.false)
    ])

pub returns : goal.returns
returns c =
    subst (λ (es : List (ℕ × ℕ)). IsLeastIfAny (LeadsLevel es c.args.ranks.now) c.loop-edge.least) (take_all c.loop-edge.edge-index c.args.edges.now c.loop-edge-test.false) c.loop-edge.invariant
