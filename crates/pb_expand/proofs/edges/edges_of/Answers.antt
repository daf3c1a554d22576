use Rattle.std.proofs.Common.{◌∷◌, [], map, length, ap, ◌∙◌, arith, length-append}
use Rattle.pb_expand.proofs.ModeLists.{lists_push}
use Rattle.pb_expand.proofs.edges.edges_of.Goals as goal

pub loop-owner-preserved : goal.loop-owner-preserved
loop-owner-preserved c =
    let blocks = map (λ b. b.now) c.args.places.now.blocks.items in
    let lists = c.loop-owner.lists.items in
    let made = c.in_ok-made.made in (
      c.in_ok-made.ensures.edges,
      c.in_ok-made.ensures.few,
      lists_push blocks c.args.places.now.firsts.items lists c.push.new.self.items c.loop-owner.owner made c.loop-owner.invariant.2 c.loop-owner.invariant.3
          c.in_ok-made.ensures.made c.in_ok-push.ensures.items,
      ap length c.in_ok-push.ensures.items ∙ length-append lists (made ∷ []) ∙ omega (arith, c.loop-owner.invariant.3),
    )
