use Rattle.std.proofs.Common.{refl}
use Rattle.prog_map.proofs.Owners.{no_step, root_alone, by_parent}
use Rattle.prog_map.proofs.back.step_by_edge.Goals as goal

pub returns-in-None-clause-exact : goal.returns-in-None-clause-exact
returns-in-None-clause-exact c =
    no_step _ _ c.law.ensures _ c.pin_at.result c.pin_at.ensures.is c.in_default.ensures.exact
    (λ owner p up s. root_alone _ owner _ c.law.ensures (c.in-None.ensures.root.0 refl) up)

pub returns-in-Some-address_of-clause-exact : goal.returns-in-Some-address_of-clause-exact
returns-in-Some-address_of-clause-exact c =
    by_parent _ _ c.law.ensures _ c.pin_at.result c.in-Some-address_of.step c.pin_at.ensures.is c.in-Some-address_of.ensures.step
    c.in_default.ensures.exact _ c.step_in-in-Some-address_of.ensures.exact
