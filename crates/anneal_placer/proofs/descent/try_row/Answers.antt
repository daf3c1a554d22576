-- What the block gains at a site of the row, and that it can go to none of the sites that were passed.
use Rattle.std.proofs.Common.{◌∙◌, [], get_or, refl, subst, sym, arith}
use Rattle.std.proofs.lemmas.List.{take_all}
use Rattle.std.proofs.lemmas.List.Elements.{All-more}
use Rattle.std.proofs.lemmas.Option.{get_or_from_slice_get, slice_get-get_or}
use Rattle.anneal_placer.specs.declared.grid.Spot.{Spot}
use Rattle.anneal_placer.specs.Board.{Descends}
use Rattle.anneal_placer.specs.Search.{ArePulls, IsStuckAmong, IsStuckAt}
use Rattle.anneal_placer.proofs.Draws.{column_at, gains_at, row_spots, row_stays, stays_at}
use Rattle.anneal_placer.proofs.descent.try_row.Goals as goal
use Rattle.anneal_placer.proofs.descent.try_row.Goals.{else-away-left-via-then-away-left+else-improve, else-away-left-via-else-away-left}

pub returns-then-left-draw-clause-stuck : goal.returns-then-left-draw-clause-stuck
returns-then-left-draw-clause-stuck c = λ _ _.
    let grid = c.args.grid.now in
    let y = c.index.result.now in
    let group = get_or grid.spots c.args.row [] in
    let right = row_spots c.args.task.now.sites.items grid.columns.items grid.rows.items grid.spots c.args.row y group c.requires.grid c.requires.row c.index.ensures
    (slice_get-get_or grid.spots c.args.row [] (omega (arith, c.requires.row, c.requires.grid.each))) in
    row_stays c.args.task.now c.args.board.now.places.items grid.columns.items c.args.block y c.left-left.result c.args.draw.now c.requires.draw c.left-left.ensures
    c.args.board.now.occupants.items group right (omega (arith, c.if-left-draw.true))

pub index-away-requires : goal.index-away-requires
index-away-requires c =
    let grid = c.args.grid.now in
    let y = c.index.result.now in
    let group = c.group-spots.result.now in
    let right = row_spots c.args.task.now.sites.items grid.columns.items grid.rows.items grid.spots c.args.row y group c.requires.grid c.requires.row c.index.ensures c.group-spots.ensures in
    let none : Spot = record { site = 0; column = 0 } in
    let there = column_at c.args.task.now c.args.board.now.places.items grid.columns.items c.args.block y c.left-left.result c.args.draw.now c.requires.draw c.left-left.ensures
    (get_or group c.loop-spot.spot-index none) 0 (right c.loop-spot.spot-index none c.loop-spot-test.true) in
    omega (arith, there.0, c.args.draw.now.columns.ok)

pub improve-requires-clause-site : goal.improve-requires-clause-site
improve-requires-clause-site c =
    let grid = c.args.grid.now in
    let right = row_spots c.args.task.now.sites.items grid.columns.items grid.rows.items grid.spots c.args.row c.index.result.now c.group-spots.result.now c.requires.grid c.requires.row c.index.ensures
    c.group-spots.ensures in
    (right c.loop-spot.spot-index (record { site = 0; column = 0 }) c.loop-spot-test.true).inside

pub improve-requires-clause-less : goal.improve-requires-clause-less
improve-requires-clause-less c =
    let grid = c.args.grid.now in
    let y = c.index.result.now in
    let group = c.group-spots.result.now in
    let right = row_spots c.args.task.now.sites.items grid.columns.items grid.rows.items grid.spots c.args.row y group c.requires.grid c.requires.row c.index.ensures c.group-spots.ensures in
    let none : Spot = record { site = 0; column = 0 } in
    rw c.loop-spot.invariant.places
    (gains_at c.args.task.now c.args.board.now.places.items grid.columns.items c.args.block y c.left-left.result c.args.draw.now c.requires.draw c.left-left.ensures
    (get_or group c.loop-spot.spot-index none) c.index-away.result.now (right c.loop-spot.spot-index none c.loop-spot-test.true) c.index-away.ensures (omega (arith, c.if-away-left.true)))

pub loop-spot-preserved : goal.loop-spot-preserved
loop-spot-preserved c =
    let task = c.args.task.now in
    let places = c.args.board.now.places.items in
    let occupants = c.args.board.now.occupants.items in
    let block = c.args.block in
    let grid = c.args.grid.now in
    let y = c.index.result.now in
    let group = c.group-spots.result.now in
    let k = c.loop-spot.spot-index in
    let so_far = c.loop-spot.invariant in
    let right = row_spots task.sites.items grid.columns.items grid.rows.items grid.spots c.args.row y group c.requires.grid c.requires.row c.index.ensures c.group-spots.ensures in
    let none : Spot = record { site = 0; column = 0 } in
    let spot = get_or group k none in
    let more = All-more (λ (s : Spot). IsStuckAt task places occupants block s.site) group k none c.loop-spot-test.true in
    elim c.else-away-left.branch [
      | else-away-left-via-then-away-left+else-improve w ↦
          (let before = c.loop-spot.board in
          let after = w.improve.new.board in
          let step = subst (Descends task before.places.items before.occupants.items after.places.items after.occupants.items) w.if-improve.false w.improve.ensures.descends in
          let stuck = subst (λ p. ArePulls task p c.args.pulls.now → IsStuckAt task p occupants block spot.site) so_far.places
          (subst (λ o. ArePulls task before.places.items c.args.pulls.now → IsStuckAt task before.places.items o block spot.site) so_far.occupants (w.improve.ensures.stuck w.if-improve.false)) in
          record {
            places = rw w.board-is (step.same_places refl ∙ so_far.places);
            occupants = rw w.board-is (step.same_occupants refl ∙ so_far.occupants);
            stuck = λ pulls. more (so_far.stuck pulls) (stuck pulls);
          })
      | else-away-left-via-else-away-left w ↦
          record {
            places = rw w.board-is so_far.places;
            occupants = rw w.board-is so_far.occupants;
            stuck = λ pulls. more (so_far.stuck pulls)
                (stays_at task places grid.columns.items block y c.left-left.result c.args.draw.now c.requires.draw c.left-left.ensures occupants spot c.index-away.result.now
                (right k none c.loop-spot-test.true) c.index-away.ensures (λ less. absurd (omega (arith, less, w.if-away-left.false))));
          }
    ]

pub returns-clause-stuck : goal.returns-clause-stuck
returns-clause-stuck c = λ _ pulls.
    let group = c.group-spots.result.now in
    let stuck = IsStuckAmong c.args.task.now c.args.board.now.places.items c.args.board.now.occupants.items c.args.block in
    subst stuck (sym (get_or_from_slice_get c.args.grid.now.spots c.args.row group [] c.group-spots.ensures))
    (subst stuck (take_all c.loop-spot.spot-index group (omega (arith, c.loop-spot-test.false))) (c.loop-spot.invariant.stuck pulls))
