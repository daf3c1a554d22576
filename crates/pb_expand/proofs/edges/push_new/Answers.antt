use Rattle.std.proofs.Common.{◌≡◌, ◌+◌, ◌-◌, ◌<◌, Some, Err, map, length, refl, sym, ap, ◌∙◌, subst, arith, slice_get}
use Rattle.std.proofs.lemmas.Option.{slice_get_read, slice_get_within}
use Rattle.arch_types.specs.declared.block.PbType.{PbType}
use Rattle.arch_types.specs.Tree.{modes_of}
use Rattle.mode_edges.specs.Edges.{AreEdges, HasMoreEdges}
use Rattle.mode_edges.specs.Faults.{IsSoundMode}
use Rattle.pb_expand.specs.declared.error.SizeError.TheVariants as size
use Rattle.pb_expand.specs.Rows.{addresses}
use Rattle.pb_expand.specs.Making.{AddsPlaced, HavePlaces, AreModeEdges}
use Rattle.pb_expand.proofs.Told.{passed_on}
use Rattle.pb_expand.proofs.Lists.{now_at, element}
use Rattle.pb_expand.proofs.Batch.{batch}
use Rattle.pb_expand.proofs.EdgeList.{mode_ends}
use Rattle.pb_expand.proofs.Excess.{too_many, adds_length}
use Rattle.pb_expand.proofs.ModeLists.{kept_more}
use Rattle.pb_expand.proofs.edges.push_new.Goals as goal

pub local_edges-requires : goal.local_edges-requires
local_edges-requires c =
    let here = now_at c.args.places.now.blocks.items c.args.owner.0 c.index-block.result.now (omega (arith, c.requires.there)) c.index-block.ensures in
    let modes = c.modes_in-is-items.result.now in
    let read = slice_get_read modes (length modes) c.loop-mode.mode c.is-item.result refl c.loop-mode-test.true c.is-item.is in
    let is_mode : slice_get (modes_of c.index-block.result.now.now.kind) c.loop-mode.mode ≡ Some c.is-item.result =
    ap (λ ms. slice_get ms c.loop-mode.mode) (sym c.modes_in-is-items.ensures) ∙ read in
    subst (λ (b : PbType). IsSoundMode b c.is-item.result) (sym c.in_ok-ports.ensures)
    (c.requires.parts.sound c.args.owner.0 c.loop-mode.mode c.index-block.result.now.now c.is-item.result here is_mode)

pub returns-in_err-local-clause-many : goal.returns-in_err-local-clause-many
returns-in_err-local-clause-many c = λ told.
    let here = now_at c.args.places.now.blocks.items c.args.owner.0 c.index-block.result.now (omega (arith, c.requires.there)) c.index-block.ensures in
    let modes = c.modes_in-is-items.result.now in
    let read = slice_get_read modes (length modes) c.loop-mode.mode c.is-item.result refl c.loop-mode-test.true c.is-item.is in
    let is_mode : slice_get (modes_of c.index-block.result.now.now.kind) c.loop-mode.mode ≡ Some c.is-item.result =
    ap (λ ms. slice_get ms c.loop-mode.mode) (sym c.modes_in-is-items.ensures) ∙ read in
    let more = subst (λ (b : PbType). HasMoreEdges b c.is-item.result (4194304 - c.len.result)) c.in_ok-ports.ensures
    (c.in_err-local.ensures.many (ap Err (passed_on _ c.in_err-local.field-0.0 size.TooMany c.from_residual-in_err-local.ensures.1 told))) in
    let few = c.loop-mode.invariant.1 in
    let excess : 4194304 < length c.loop-mode.edges.items + length more.edges = omega (arith, more.more, c.len.ensures, c.loop-mode.edges.ok) in
    too_many (map (λ b. b.now) c.args.places.now.blocks.items) c.args.places.now.rows.keys c.args.places.now.pins.keys c.args.owner.0 c.loop-mode.mode
    c.index-block.result.now.now c.is-item.result more.edges c.loop-mode.edges.items c.requires.parts here is_mode more.are c.loop-mode.invariant.0 excess

pub overflow_cast-number : goal.overflow_cast-number
overflow_cast-number c =
    let here = now_at c.args.places.now.blocks.items c.args.owner.0 c.index-block.result.now (omega (arith, c.requires.there)) c.index-block.ensures in
    omega (arith, (c.requires.parts.short.each c.args.owner.0 c.index-block.result.now.now here).0, ap length c.modes_in-is-items.ensures, c.loop-mode-test.true)

pub push_local-requires-clause-places : goal.push_local-requires-clause-places
push_local-requires-clause-places c =
    let here = now_at c.args.places.now.blocks.items c.args.owner.0 c.index-block.result.now (omega (arith, c.requires.there)) c.index-block.ensures in
    let modes = c.modes_in-is-items.result.now in
    let read = slice_get_read modes (length modes) c.loop-mode.mode c.is-item.result refl c.loop-mode-test.true c.is-item.is in
    let is_mode : slice_get (modes_of c.index-block.result.now.now.kind) c.loop-mode.mode ≡ Some c.is-item.result =
    ap (λ ms. slice_get ms c.loop-mode.mode) (sym c.modes_in-is-items.ensures) ∙ read in
    subst (λ l. HavePlaces c.args.places.now.rows.keys c.args.places.now.pins.keys c.args.owner.0 c.loop-mode.mode l) (sym c.as_slice.ensures.value)
    (c.requires.parts.places c.args.owner.0 c.loop-mode.mode c.index-block.result.now.now c.is-item.result c.in_ok-local.local.items here is_mode (subst (λ (b : PbType). AreEdges b c.is-item.result c.in_ok-local.local.items) c.in_ok-ports.ensures c.in_ok-local.ensures.edges))

pub loop-mode-preserved : goal.loop-mode-preserved
loop-mode-preserved c =
    let blocks = map (λ b. b.now) c.args.places.now.blocks.items in
    let instances = addresses c.args.places.now.rows.keys in
    let pins = c.args.places.now.pins.keys in
    let here = now_at c.args.places.now.blocks.items c.args.owner.0 c.index-block.result.now (omega (arith, c.requires.there)) c.index-block.ensures in
    let address = element instances c.args.owner.0 (omega (arith, slice_get_within blocks c.args.owner.0 c.index-block.result.now.now here, c.requires.parts.all_addresses)) in
    let modes = c.modes_in-is-items.result.now in
    let read = slice_get_read modes (length modes) c.loop-mode.mode c.is-item.result refl c.loop-mode-test.true c.is-item.is in
    let is_mode : slice_get (modes_of c.index-block.result.now.now.kind) c.loop-mode.mode ≡ Some c.is-item.result =
    ap (λ ms. slice_get ms c.loop-mode.mode) (sym c.modes_in-is-items.ensures) ∙ read in
    let adds = subst (λ l. AddsPlaced instances pins c.args.owner.0 c.loop-mode.mode l c.loop-mode.edges.items c.push_local.new.edges.items) c.as_slice.ensures.value c.in_ok-push_local.ensures in
    let few = c.loop-mode.invariant.1 in
    let longer = adds_length instances pins c.args.owner.0 c.loop-mode.mode c.in_ok-local.local.items c.loop-mode.edges.items c.push_local.new.edges.items adds in (
      batch blocks instances pins c.args.owner.0 c.loop-mode.mode c.index-block.result.now.now address.0 c.is-item.result c.in_ok-local.local.items
          c.loop-mode.edges.items c.push_local.new.edges.items c.requires.parts.numbered.once_instances c.requires.parts.numbered.once_pins here address.1 is_mode
          (subst (λ (b : PbType). AreEdges b c.is-item.result c.in_ok-local.local.items) c.in_ok-ports.ensures c.in_ok-local.ensures.edges) adds c.loop-mode.invariant.0,
      omega (arith, longer, c.in_ok-local.ensures.few, c.len.ensures, c.loop-mode.edges.ok),
      λ b at_b.
          let same : c.index-block.result.now.now ≡ b = cc (here, at_b) in
          subst (λ (x : PbType). AreModeEdges x (c.loop-mode.mode + 1) c.keep.new.kept.items) same
          (kept_more c.index-block.result.now.now c.loop-mode.mode c.loop-mode.kept.items c.keep.new.kept.items c.is-item.result c.in_ok-local.local
          (c.loop-mode.invariant.2 c.index-block.result.now.now here) is_mode
          (subst (λ (x : PbType). AreEdges x c.is-item.result c.in_ok-local.local.items) c.in_ok-ports.ensures c.in_ok-local.ensures.edges) c.in_ok-keep.ensures),
    )

pub returns-clause-edges : goal.returns-clause-edges
returns-clause-edges c =
    let blocks = map (λ b. b.now) c.args.places.now.blocks.items in
    let here = now_at c.args.places.now.blocks.items c.args.owner.0 c.index-block.result.now (omega (arith, c.requires.there)) c.index-block.ensures in
    mode_ends blocks (addresses c.args.places.now.rows.keys) c.args.places.now.pins.keys c.args.owner.0 c.loop-mode.mode c.index-block.result.now.now c.loop-mode.edges.items
    here (omega (arith, ap length c.modes_in-is-items.ensures, c.loop-mode-test.false)) c.loop-mode.invariant.0

pub returns-clause-made : goal.returns-clause-made
returns-clause-made c = λ b at_b.
    let here = now_at c.args.places.now.blocks.items c.args.owner.0 c.index-block.result.now (omega (arith, c.requires.there)) c.index-block.ensures in
    let same : c.index-block.result.now.now ≡ b = cc (here, at_b) in
    let done : c.loop-mode.mode ≡ length (modes_of c.index-block.result.now.now.kind) =
    omega (arith, c.loop-mode-test.false, c.loop-mode.auto.mode-end, ap length c.modes_in-is-items.ensures) in
    subst (λ (x : PbType). AreModeEdges b (length (modes_of x.kind)) c.loop-mode.kept.items) same
    (subst (λ k. AreModeEdges b k c.loop-mode.kept.items) done (c.loop-mode.invariant.2 b at_b))
