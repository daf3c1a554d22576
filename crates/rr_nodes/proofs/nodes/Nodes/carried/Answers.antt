use Rattle.std.proofs.Common.{map, ap, sym, ◌∙◌}
use Rattle.rr_nodes.proofs.Kept.{carried_kept}
use Rattle.rr_nodes.proofs.nodes.Nodes.carried.Goals as goal

pub returns : goal.returns
returns c =
    c.as_slice.ensures.value ∙ sym (carried_kept c.self.inside.gathered.carried.items c.self.inside.gathered.places.entries c.self.invariant.same) ∙
    ap (λ l. map (λ n. n.carried) l) c.self.view_is
