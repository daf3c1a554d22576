-- The half perimeter of the rectangle.
use Rattle.std.proofs.Common.{◌∙◌}
use Rattle.anneal_placer.proofs.Costs.{cost_of_rect}
use Rattle.anneal_placer.proofs.cost.net_cost.Goals as goal

pub returns-in-Some-clause-value : goal.returns-in-Some-clause-value
returns-in-Some-clause-value c =
    c.half_perimeter.ensures.value ∙ cost_of_rect c.args.sites.now c.args.places.now c.args.net.now c.in-Some.rect c.in-Some.ensures
