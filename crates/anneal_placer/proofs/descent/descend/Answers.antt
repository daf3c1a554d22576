-- A pass that changes something makes the cost less, and after one that changes nothing no step helps.
use Rattle.std.proofs.Common.{arith, length, refl, subst, sym, true, IsTrue}
use Rattle.std.proofs.lemmas.List.Elements.{All-replicate}
use Rattle.anneal_placer.specs.Search.{AreStuck}
use Rattle.anneal_placer.proofs.Boards.{no_dearer, placed}
use Rattle.anneal_placer.proofs.Steps.{settled}
use Rattle.anneal_placer.proofs.descent.descend.Goals as goal

pub loop-better-preserved : goal.loop-better-preserved
loop-better-preserved c =
    let task = c.args.task.now in
    let step = c.in_ok-better.ensures.descends in
    record {
      board = step.board;
      no_dearer = omega (arith, c.loop-better.invariant.no_dearer, no_dearer task c.loop-better.board.places.items c.pass.new.board.places.items c.loop-better.board.occupants.items c.pass.new.board.occupants.items c.in_ok-better.better step);
      stuck = λ kept.
          subst (λ p. AreStuck task p c.pass.new.board.occupants.items (length task.blocks.items)) (sym (step.same_places kept))
          (subst (λ o. AreStuck task c.loop-better.board.places.items o (length task.blocks.items)) (sym (step.same_occupants kept)) (c.in_ok-better.ensures.stuck kept (rw c.deref-in-loop-better-2.ensures.value (rw (c.in_ok-all.ensures.items_if_clones_equal (λ y e. e)) (All-replicate IsTrue _ true refl)))));
    }

pub returns-clause-placed : goal.returns-clause-placed
returns-clause-placed c = placed c.args.task.now c.loop-better.board.places.items c.loop-better.board.occupants.items c.loop-better.invariant.board

pub returns-clause-settled : goal.returns-clause-settled
returns-clause-settled c =
    settled c.args.task.now c.loop-better.board.places.items c.loop-better.board.occupants.items c.loop-better.invariant.board (c.loop-better.invariant.stuck c.loop-better-test.false)
