use Rattle.std.proofs.Common.{◌+◌, ◌<◌, map, length, refl, sym, subst, arith}
use Rattle.std.proofs.lemmas.Option.{slice_get_read}
use Rattle.std.proofs.lemmas.List.{length-map}
use Rattle.pb_expand.specs.Rows.{addresses}
use Rattle.pb_expand.specs.Making.{AddsPlaced, HavePlaces}
use Rattle.pb_expand.proofs.Lists.{element}
use Rattle.pb_expand.proofs.Excess.{too_many, adds_length}
use Rattle.pb_expand.proofs.KeptModes.{passed_none, up_to, pass_kept, passed_all}
use Rattle.pb_expand.proofs.edges.push_known.Goals as goal

pub loop-known-init : goal.loop-known-init
loop-known-init c = (
  passed_none (map (λ b. b.now) c.args.places.now.blocks.items) c.args.places.now.rows.keys c.args.places.now.pins.keys c.args.owner.0 c.args.kept.now c.args.edges.now.items c.requires.before,
  c.requires.few,
)

pub returns-then-len-clause-many : goal.returns-then-len-clause-many
returns-then-len-clause-many c = λ told.
    let blocks = map (λ b. b.now) c.args.places.now.blocks.items in
    let block = element blocks c.args.owner.0 (omega (arith, c.requires.there, length-map c.args.places.now.blocks.items (λ b. b.now))) in
    let kept = c.args.kept.now in
    let one = c.known-item.result in
    let at_k = slice_get_read kept (length kept) c.loop-known.known-index one refl c.loop-known-test.true c.known-item.is in
    let are = c.requires.kept block.0 block.1 in
    let mode = are.each c.loop-known.known-index one at_k in
    let few = c.loop-known.invariant.1 in
    let excess : 4194304 < length c.loop-known.edges.items + length one.edges.items =
    omega (arith, c.if-len.true, c.len.ensures, c.len-in-loop-known.ensures, c.loop-known.edges.ok, one.edges.ok) in
    too_many blocks c.args.places.now.rows.keys c.args.places.now.pins.keys c.args.owner.0 one.mode
    block.0 mode.0 one.edges.items c.loop-known.edges.items c.requires.parts block.1 mode.1 mode.2
    (up_to blocks c.args.places.now.rows.keys c.args.places.now.pins.keys c.args.owner.0 c.loop-known.known-index block.0 kept one c.loop-known.edges.items
    c.requires.parts block.1 are at_k c.loop-known.invariant.0) excess

pub push_local-requires-clause-places : goal.push_local-requires-clause-places
push_local-requires-clause-places c =
    let blocks = map (λ b. b.now) c.args.places.now.blocks.items in
    let block = element blocks c.args.owner.0 (omega (arith, c.requires.there, length-map c.args.places.now.blocks.items (λ b. b.now))) in
    let kept = c.args.kept.now in
    let one = c.known-item.result in
    let at_k = slice_get_read kept (length kept) c.loop-known.known-index one refl c.loop-known-test.true c.known-item.is in
    let mode = (c.requires.kept block.0 block.1).each c.loop-known.known-index one at_k in
    subst (λ l. HavePlaces c.args.places.now.rows.keys c.args.places.now.pins.keys c.args.owner.0 one.mode l) (sym c.as_slice.ensures.value)
    (c.requires.parts.places c.args.owner.0 one.mode block.0 mode.0 one.edges.items block.1 mode.1 mode.2)

pub loop-known-preserved : goal.loop-known-preserved
loop-known-preserved c =
    let blocks = map (λ b. b.now) c.args.places.now.blocks.items in
    let rows = c.args.places.now.rows.keys in
    let pins = c.args.places.now.pins.keys in
    let block = element blocks c.args.owner.0 (omega (arith, c.requires.there, length-map c.args.places.now.blocks.items (λ b. b.now))) in
    let kept = c.args.kept.now in
    let one = c.known-item.result in
    let at_k = slice_get_read kept (length kept) c.loop-known.known-index one refl c.loop-known-test.true c.known-item.is in
    let adds = subst (λ l. AddsPlaced (addresses rows) pins c.args.owner.0 one.mode l c.loop-known.edges.items c.push_local.new.edges.items) c.as_slice.ensures.value c.in_ok-push_local.ensures in
    let few = c.loop-known.invariant.1 in
    let longer = adds_length (addresses rows) pins c.args.owner.0 one.mode one.edges.items c.loop-known.edges.items c.push_local.new.edges.items adds in (
      pass_kept blocks rows pins c.args.owner.0 c.loop-known.known-index block.0 kept one c.loop-known.edges.items c.push_local.new.edges.items
          c.requires.parts block.1 (c.requires.kept block.0 block.1) at_k adds c.loop-known.invariant.0,
      omega (arith, longer, c.if-len.false, c.len.ensures, c.len-in-loop-known.ensures, c.loop-known.edges.ok, one.edges.ok),
    )

pub returns-clause-edges : goal.returns-clause-edges
returns-clause-edges c =
    let blocks = map (λ b. b.now) c.args.places.now.blocks.items in
    let block = element blocks c.args.owner.0 (omega (arith, c.requires.there, length-map c.args.places.now.blocks.items (λ b. b.now))) in
    passed_all blocks c.args.places.now.rows.keys c.args.places.now.pins.keys c.args.owner.0 c.loop-known.known-index block.0 c.args.kept.now c.loop-known.edges.items
    c.requires.parts block.1 (c.requires.kept block.0 block.1) (omega (arith, c.loop-known-test.false)) c.loop-known.invariant.0
