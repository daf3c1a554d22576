-- One more block.
use Rattle.std.proofs.Common.{◌≡◌, ◌<◌, ◌∙◌, ◌++◌, ◌∷◌, [], ap, arith, get_or, length, map, refl, set, subst, sym}
use Rattle.std.specs.List.{All}
use Rattle.std.specs.Vec.{vec_items}
use Rattle.std.proofs.lemmas.List.{get_or-map, length-map}
use Rattle.anneal_placer.proofs.Lists.{adds_more, put}
use Rattle.anneal_placer.proofs.indexed.add_net.Goals as goal

pub loop-block-preserved : goal.loop-block-preserved
loop-block-preserved c =
    let x = get_or c.args.net.now c.loop-block.block-index 0 in
    let list = c.index-of-block.result in
    let is = c.index-of-block.is in
    let x_in : x < length c.args.of.now = c.requires.within c.loop-block.block-index 0 c.loop-block-test.true in
    let now_in : x < length c.loop-block.of = omega (arith, x_in, c.loop-block.auto.of) in
    let p = put c.loop-block.of x list c.push_once.new.list now_in is in
    let read : (get_or c.loop-block.of x list).items ≡ get_or (map vec_items c.loop-block.of) x [] = ap vec_items (sym is) ∙ sym p.was in
    adds_more c.args.number c.loop-block.block-index x c.args.net.now (map vec_items c.args.of.now) (map vec_items c.loop-block.of) (map vec_items (set c.loop-block.of x c.push_once.new.list)) c.loop-block-test.true refl
    (omega (arith, x_in, length-map c.args.of.now vec_items)) c.loop-block.invariant p.size p.others
    (λ front e. p.is ∙ c.in_ok-push_once.ensures.again front (read ∙ e) ∙ read)
    (λ all. p.is ∙ c.in_ok-push_once.ensures.first (subst (λ xs. All (λ other. other < c.args.number) xs) (sym read) all) ∙ ap (λ xs. xs ++ c.args.number ∷ []) read)
    (subst (λ xs. All (λ other. other < c.args.number) xs) (sym (get_or-map vec_items c.args.of.now x list [] x_in)) (c.requires.earlier x list x_in))
