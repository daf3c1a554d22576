-- One more block was tried, or it was not active.
use Rattle.std.proofs.Common.{◌∙◌, arith, subst, sym}
use Rattle.anneal_placer.specs.Board.{Descends}
use Rattle.anneal_placer.specs.Search.{ArePulls}
use Rattle.anneal_placer.proofs.Boards.{then_more, then_none}
use Rattle.anneal_placer.proofs.Steps.{not_all, stuck_further}
use Rattle.anneal_placer.proofs.descent.pass.Goals as goal
use Rattle.anneal_placer.proofs.descent.pass.Goals.{then-active-block+in_ok-settle+then-branch, else-active-block, else-active-block-via-then-active-block+in_ok-settle+else-branch, else-active-block-via-else-active-block}

pub loop-block-preserved : goal.loop-block-preserved
loop-block-preserved c =
    let task = c.args.task.now in
    let first = c.args.board.now in
    let before = c.loop-block.board in
    let so_far = c.loop-block.invariant in
    elim c.if-active-block.branch [
      | then-active-block+in_ok-settle+then-branch w ↦
          (let after = w.settle.new.board in
          let step = subst (Descends task before.places.items before.occupants.items after.places.items after.occupants.items) w.if-branch.true w.in_ok-settle.ensures.descends in
          record {
            descends = rw (w.board-is, w.better-is) (then_more task first.places.items before.places.items after.places.items first.occupants.items before.occupants.items after.occupants.items c.loop-block.better so_far.descends step);
            stuck = λ bad. absurd (cc (bad, w.better-is));
          })
      | else-active-block w ↦
          elim w.else-active-block.branch [
            | else-active-block-via-then-active-block+in_ok-settle+else-branch v ↦
                (let after = v.settle.new.board in
                let step = subst (Descends task before.places.items before.occupants.items after.places.items after.occupants.items) v.if-branch.false v.in_ok-settle.ensures.descends in
                record {
                  descends = rw (w.board-is, w.better-is, v.board-is) (then_none task first.places.items before.places.items after.places.items first.occupants.items before.occupants.items after.occupants.items c.loop-block.better so_far.descends step);
                  stuck = λ kept all. let none = sym w.better-is ∙ kept in
                      let pulls = subst (λ p. ArePulls task p c.in_ok-pulls.pulls.items) (sym (so_far.descends.same_places none)) (rw c.deref.ensures.value at c.in_ok-pulls.ensures) in
                      stuck_further task first.places.items before.places.items first.occupants.items before.occupants.items c.loop-block.block (so_far.descends.same_places none) (so_far.descends.same_occupants none)
                      (so_far.stuck none all) (v.in_ok-settle.ensures.stuck v.if-branch.false (rw v.deref-then-active-block.ensures.value pulls));
                })
            | else-active-block-via-else-active-block v ↦
                record {
                  descends = rw (w.board-is, w.better-is, v.board-is) so_far.descends;
                  stuck = λ kept all. absurd (not_all c.args.active.now c.loop-block.block _
                      (omega (arith, c.loop-block-test.true, c.len-block-end.ensures, c.requires.active, c.requires.few_blocks, task.blocks.ok)) all v.if-active-block.false);
                }
          ]
    ]
