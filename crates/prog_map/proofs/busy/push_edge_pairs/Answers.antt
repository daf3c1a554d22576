use Rattle.std.proofs.Common.{◌≡◌, ◌++◌, ◌∷◌, ◌<◌, [], length, get_or, ap, sym, ◌∙◌, arith}
use Rattle.std.proofs.lemmas.Option.{get_or_from_slice_get}
use Rattle.prog_map.specs.Tables.{owner_mode}
use Rattle.prog_map.proofs.Pushing.{map_next}
use Rattle.prog_map.proofs.busy.push_edge_pairs.Goals as goal

pub loop-number-preserved : goal.loop-number-preserved
loop-number-preserved c =
    let inside : c.loop-number.number < length c.args.graph.now.edges = omega (arith, c.loop-number-test.true, c.loop-number.auto.number-end, c.edges-number-end.ensures) in
    let edge = c.edge-edge.result in
    let here : get_or c.args.graph.now.edges c.loop-number.number edge ≡ edge = get_or_from_slice_get c.args.graph.now.edges c.loop-number.number edge edge c.edge-edge.ensures.is in (
      omega (arith, inside),
      map_next owner_mode c.args.graph.now.edges c.loop-number.number edge _ _ _ c.loop-number.invariant.1 inside
          (c.in_ok-push.ensures.items ∙ ap (λ e. c.loop-number.pairs.items ++ owner_mode e ∷ []) (sym here)),
    )
