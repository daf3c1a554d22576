use Rattle.std.proofs.Common.{◌≡◌, refl, length, subst, Some}
use Rattle.std.specs.Prelude.{slice_get}
use Rattle.std.proofs.lemmas.Option.{slice_get_read}
use Rattle.text_rows.proofs.put_graphs.Goals as goal

pub put_programming-requires : goal.put_programming-requires
put_programming-requires c =
    let items = c.deref-graph-items.result.now in
    let n = c.loop-graph.graph-index in
    let read = slice_get_read items (length items) n c.graph-item.result refl c.loop-graph-test.true c.graph-item.is in
    let at_n = subst (λ l. slice_get l n ≡ Some c.graph-item.result) c.deref-graph-items.ensures.value read in
    c.plain_names.ensures n c.graph-item.result.root (c.in_ok-graphs.ensures.graphs.root n c.graph-item.result at_n)
