use Rattle.std.proofs.Common.{[], List, sym, ap, ◌∙◌, subst}
use Rattle.std.proofs.lemmas.Result.{err_from_is_err_and}
use Rattle.rr_edges.specs.declared.kept.FileEdge.{FileEdge}
use Rattle.rr_edges.specs.FileEdges.{edges_of, SaysEdges, none}
use Rattle.rr_edges.proofs.Walk.{lent, one_more, first_to_fail, all_said, with_kept, with_none}
use Rattle.rr_edges.proofs.read.read_edges.Goals as goal
use Rattle.rr_edges.proofs.read.read_edges.Goals.{in-Some+in_ok-push, in_default}

pub loop-index-init : goal.loop-index-init
loop-index-init g c = subst (λ (es : List FileEdge). SaysEdges (g.T.EndTable.known c.args.table.now) [] es) (sym c.new-kept.ensures.items) none

pub loop-index-preserved : goal.loop-index-preserved
loop-index-preserved g c =
    let next = one_more (g.T.EndTable.known c.args.table.now) c.deref-edge-items.result.now c.loop-index.index c.edge-item.result c.loop-index.kept.items
    c.in_ok-said.field-0 c.loop-index-test.true c.edge-item.is c.loop-index.invariant c.in_ok-said.ensures.ok in
    elim c.match-branch-3.branch [
      | in-Some+in_ok-push w ↦
          with_kept _ _ c.loop-index.kept.items c.match-branch-3.kept w.push.new.self c.in_ok-said.field-0 w.in-Some.said
          w.in-Some.is w.kept-is w.in_ok-push.ensures.items next
      | in_default w ↦ with_none _ _ c.loop-index.kept c.match-branch-3.kept c.in_ok-said.field-0 w.in_default.is w.kept-is next
    ]

pub returns-in_err-said-clause-refused : goal.returns-in_err-said-clause-refused
returns-in_err-said-clause-refused g c =
    let p = err_from_is_err_and c.from_residual-in_err-said.result c.from_residual-in_err-said.ensures.1 in
    rw (p.1, p.2) (first_to_fail (g.T.EndTable.known c.args.table.now) _ c.deref-edge-items.result.now c.loop-index.index c.edge-item.result c.loop-index.kept.items
    c.in_err-said.field-0.0 (ap lent c.deref-edge-items.ensures.value ∙ c.in_ok-elems.ensures) c.loop-index-test.true c.edge-item.is c.loop-index.invariant
    c.in_err-said.ensures.refused)

pub returns-clause-ok : goal.returns-clause-ok
returns-clause-ok g c =
    subst (λ (es : List FileEdge). SaysEdges (g.T.EndTable.known c.args.table.now) (edges_of c.args.root.now) es) (sym c.from_vec.ensures)
    (all_said (g.T.EndTable.known c.args.table.now) _ c.deref-edge-items.result.now c.loop-index.index c.loop-index.kept.items
    (ap lent c.deref-edge-items.ensures.value ∙ c.in_ok-elems.ensures) c.loop-index-test.false c.loop-index.invariant)
