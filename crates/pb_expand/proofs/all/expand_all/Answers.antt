use Rattle.std.proofs.Common.{◌≡◌, Some, length, slice_get, refl, ap, ◌∙◌, subst, arith}
use Rattle.std.proofs.lemmas.Option.{slice_get_read}
use Rattle.arch_types.specs.declared.arch.ArchParts.{ArchParts}
use Rattle.pb_expand.proofs.AllGraphs.{one_made, root_is_sound, root_fits}
use Rattle.pb_expand.proofs.all.expand_all.Goals as goal

pub returns-in-Err-clause-refused : goal.returns-in-Err-clause-refused
returns-in-Err-clause-refused c =
    let items = c.as_slice-root-items.result.now in
    let blocks : items ≡ c.args.arch.now.blocks = c.as_slice-root-items.ensures ∙ ap (λ (p : ArchParts). p.blocks) c.arch.view_is in
    let at_n = subst (λ l. slice_get l c.loop-block.block ≡ Some c.root-item.result) blocks
    (slice_get_read items (length items) c.loop-block.block c.root-item.result refl c.loop-block-test.true c.root-item.is) in
    record { root = c.root-item.result; is_root = at_n; refusal = c.in-Err.ensures.refused; sound = c.loop-block.invariant.sound; fits = c.loop-block.invariant.fits }

pub loop-block-preserved : goal.loop-block-preserved
loop-block-preserved c =
    let items = c.as_slice-root-items.result.now in
    let blocks : items ≡ c.args.arch.now.blocks = c.as_slice-root-items.ensures ∙ ap (λ (p : ArchParts). p.blocks) c.arch.view_is in
    let at_n = subst (λ l. slice_get l c.loop-block.block ≡ Some c.root-item.result) blocks
    (slice_get_read items (length items) c.loop-block.block c.root-item.result refl c.loop-block-test.true c.root-item.is) in
    one_made c.args.arch.now.blocks c.loop-block.block c.root-item.result c.loop-block.graphs.items c.push_graph.new.graphs.items at_n c.loop-block.invariant c.in_default.ensures.added

pub returns-clause-graphs : goal.returns-clause-graphs
returns-clause-graphs c =
    let made = c.loop-block.invariant in
    let items = c.as_slice-root-items.result.now in
    let blocks : items ≡ c.args.arch.now.blocks = c.as_slice-root-items.ensures ∙ ap (λ (p : ArchParts). p.blocks) c.arch.view_is in
    record {
      all = omega (arith, made.all, ap length blocks, c.loop-block-test.false, c.loop-block.auto.block-end);
      number = λ n g at. (made.each n g at).number;
      root = λ n g at. (made.each n g at).root;
      expansion = λ n g at. (made.each n g at).expansion;
      sound = λ n g at. root_is_sound c.args.arch.now.blocks c.loop-block.block c.loop-block.graphs.items made n g at;
      fits = λ n g at. root_fits c.args.arch.now.blocks c.loop-block.block c.loop-block.graphs.items made n g at;
    }
