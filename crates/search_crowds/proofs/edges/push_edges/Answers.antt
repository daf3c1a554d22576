use Rattle.std.proofs.Common.{◌+◌, sym, subst, ◌∙◌, arith}
use Rattle.std.proofs.lemmas.Option.{slice_get-get_or}
use Rattle.list_laws.proofs.Members.{has_at}
use Rattle.search_crowds.specs.Webs.{AddsEdges}
use Rattle.search_crowds.proofs.Spreading.{edges_more, put_either, room_kept}
use Rattle.search_crowds.proofs.edges.push_edges.Goals as goal

pub insert-requires : goal.insert-requires
insert-requires c =
    let inside = c.requires _ (has_at c.args.sources.now c.loop-source.source-index _ (slice_get-get_or c.args.sources.now c.loop-source.source-index 0 c.loop-source-test.true)) in
    omega (arith, inside, c.loop-source.invariant.room)

pub loop-source-preserved : goal.loop-source-preserved
loop-source-preserved c =
    let at = slice_get-get_or c.args.sources.now c.loop-source.source-index 0 c.loop-source-test.true in
    record {
      edges = subst (λ l. AddsEdges c.args.pin c.args.sources.now (c.loop-source.source-index + 1) c.args.reached.now.items c.insert.new.self.items c.args.edges.now.items l) (sym c.in_ok-push.ensures.items)
          (edges_more c.args.pin c.args.sources.now c.loop-source.source-index _ c.args.reached.now.items c.loop-source.reached.items c.insert.new.self.items c.args.edges.now.items c.loop-source.edges.items at
          (put_either c.loop-source.reached c.insert.new.self _ c.insert.result c.insert.ensures) c.loop-source.invariant.edges);
      room = room_kept c.loop-source.reached c.insert.new.self _ c.insert.result c.insert.ensures ∙ c.loop-source.invariant.room;
    }
