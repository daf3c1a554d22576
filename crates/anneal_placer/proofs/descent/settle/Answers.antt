-- One more row was tried.
use Rattle.std.proofs.Common.{◌∙◌, arith, refl, subst, sym}
use Rattle.anneal_placer.specs.Board.{Descends}
use Rattle.anneal_placer.specs.Search.{IsDraw}
use Rattle.anneal_placer.proofs.Boards.{then_more, then_none}
use Rattle.anneal_placer.proofs.Draws.{all_rows, rows_more}
use Rattle.anneal_placer.proofs.descent.settle.Goals as goal
use Rattle.anneal_placer.proofs.descent.settle.Goals.{then-try_row+in_ok-draw-2, else-try_row}

pub loop-row-preserved : goal.loop-row-preserved
loop-row-preserved c =
    let task = c.args.task.now in
    let first = c.args.board.now in
    let before = c.loop-row.board in
    let after = c.try_row.new.board in
    let so_far = c.loop-row.invariant in
    elim c.if-try_row.branch [
      | then-try_row+in_ok-draw-2 w ↦
          (let step = subst (Descends task before.places.items before.occupants.items after.places.items after.occupants.items) w.if-try_row.true c.try_row.ensures.descends in
          record {
            descends = rw w.better-is (then_more task first.places.items before.places.items after.places.items first.occupants.items before.occupants.items after.occupants.items c.loop-row.better so_far.descends step);
            draw = rw w.draw-is (rw (w.deref-then-try_row.ensures.value, w.deref-then-try_row-2.ensures.value) at w.in_ok-draw-2.ensures);
            stuck = λ bad. absurd (cc (bad, w.better-is));
          })
      | else-try_row w ↦
          (let step = subst (Descends task before.places.items before.occupants.items after.places.items after.occupants.items) w.if-try_row.false c.try_row.ensures.descends in
          record {
            descends = rw w.better-is (then_none task first.places.items before.places.items after.places.items first.occupants.items before.occupants.items after.occupants.items c.loop-row.better so_far.descends step);
            draw = rw w.draw-is (subst (λ p. IsDraw task p c.args.grid.now.columns.items c.args.block c.loop-row.draw) (sym (step.same_places refl)) so_far.draw);
            stuck = λ kept pulls. let none = sym w.better-is ∙ kept in
                rows_more task first.places.items before.places.items first.occupants.items before.occupants.items c.args.block c.loop-row.row c.args.grid.now.spots c.args.pulls.now
                (so_far.descends.same_places none) (so_far.descends.same_occupants none) (so_far.stuck none pulls) (c.try_row.ensures.stuck w.if-try_row.false) pulls;
          })
    ]

pub returns-clause-stuck : goal.returns-clause-stuck
returns-clause-stuck c = λ kept pulls.
    let grid = c.args.grid.now in
    all_rows c.args.task.now c.args.board.now.places.items grid.columns.items grid.rows.items c.args.board.now.occupants.items grid.spots c.args.block c.requires.grid
    (λ row row_in. c.loop-row.invariant.stuck kept pulls row (omega (arith, row_in, c.loop-row-test.false, c.len-row-end.ensures, c.requires.few_rows, grid.rows.ok)))
