use Rattle.std.proofs.Common.{◌≡◌, ◌+◌, ℕ, true, false, Vec, Global, refl, sym, ap, subst, ◌∙◌}
use Rattle.std.proofs.lemmas.Option.{slice_get-get_or}
use Rattle.search_homes.proofs.Pairing.{IsAdding, listed_inside, adding_push, adding_skip, adding_done}
use Rattle.search_homes.proofs.pairs.push_open.Goals as goal
use Rattle.search_homes.proofs.pairs.push_open.Goals.{then-is_open_to+in_ok-push, else-is_open_to}

pub is_open_to-requires-clause-leaf : goal.is_open_to-requires-clause-leaf
is_open_to-requires-clause-leaf c =
    let list = c.homes_of-leaf-items.result.now in
    listed_inside c.args.graph.now c.args.task.now c.args.place c.loop-leaf.leaf-index list _ c.requires.task c.homes_of-leaf-items.ensures (slice_get-get_or list c.loop-leaf.leaf-index (record { 0 = 0 }) c.loop-leaf-test.true)

pub loop-leaf-preserved : goal.loop-leaf-preserved
loop-leaf-preserved c =
    let list = c.homes_of-leaf-items.result.now in
    let at = slice_get-get_or list c.loop-leaf.leaf-index (record { 0 = 0 }) c.loop-leaf-test.true in
    elim c.if-is_open_to.branch [
      | then-is_open_to+in_ok-push w ↦ (
          let is = ap (λ (v : Vec (ℕ × ℕ) Global). v.items) w.pairs-is ∙ w.in_ok-push.ensures.items in
          subst (λ l. IsAdding c.args.graph.now c.args.task.now c.args.trail.now.made c.args.place c.args.pairs.now.items list (c.loop-leaf.leaf-index + 1) l) (sym is)
          (adding_push c.args.graph.now c.args.task.now c.args.trail.now.made c.args.place c.args.pairs.now.items list c.loop-leaf.leaf-index c.loop-leaf.pairs.items _ at c.loop-leaf.invariant (w.if-is_open_to.ensures.0 refl)))
      | else-is_open_to w ↦ (
          let is = ap (λ (v : Vec (ℕ × ℕ) Global). v.items) w.pairs-is in
          subst (λ l. IsAdding c.args.graph.now c.args.task.now c.args.trail.now.made c.args.place c.args.pairs.now.items list (c.loop-leaf.leaf-index + 1) l) (sym is)
          (adding_skip c.args.graph.now c.args.task.now c.args.trail.now.made c.args.place c.args.pairs.now.items list c.loop-leaf.leaf-index c.loop-leaf.pairs.items _ at c.loop-leaf.invariant
          (λ opens. let bad : false ≡ true = w.if-is_open_to.ensures.1 opens in cc bad)))
    ]

pub returns : goal.returns
returns c =
    adding_done c.args.graph.now c.args.task.now c.args.trail.now.made c.args.place c.args.pairs.now.items c.homes_of-leaf-items.result.now c.loop-leaf.leaf-index c.loop-leaf.pairs.items c.homes_of-leaf-items.ensures c.loop-leaf-test.false c.loop-leaf.invariant
