use Rattle.std.proofs.Common.{◌≡◌, Some, None, get_or, sym, ◌∙◌, arith}
use Rattle.std.proofs.lemmas.List.{get_or_default}
use Rattle.matching.proofs.Sound.{taken_sound, right_of_within}
use Rattle.matching.proofs.state.Matching.take_back.Goals as goal

pub index_mut-requires-2 : goal.index_mut-requires-2
index_mut-requires-2 c =
    let m = c.self.inside in
    let within = rw (← c.self.view_is) at c.requires in
    let placed : get_or m.place.items c.args.left None ≡ Some c.in_ok-right.right =
    sym (c.index.ensures ∙ get_or_default m.place.items c.args.left c.index.result.now None within) ∙ c.in_ok-right.was in
    let inside = right_of_within _ _ _ _ _ m.place.items m.owner.items _ _ c.args.left c.in_ok-right.right c.self.invariant placed in
    omega (arith, inside, m.owner.ok)

pub invariant_of-self : goal.invariant_of-self
invariant_of-self c =
    let m = c.self.inside in
    let within = rw (← c.self.view_is) at c.requires in
    let placed : get_or m.place.items c.args.left None ≡ Some c.in_ok-right.right =
    sym (c.index.ensures ∙ get_or_default m.place.items c.args.left c.index.result.now None within) ∙ c.in_ok-right.was in
    taken_sound _ _ _ _ _ m.place.items m.owner.items _ _ c.args.left c.in_ok-right.right c.self.invariant placed
