use Rattle.std.proofs.Common.{refl}
use Rattle.prog_map.proofs.Owners.{step_is, pick_inside, same_number}
use Rattle.prog_map.proofs.back.step_in.Goals as goal

pub edge-edge-requires : goal.edge-edge-requires
edge-edge-requires c = pick_inside _ _ c.requires.of _ _ _ c.in_ok-chosen.ensures

pub returns-clause-exact : goal.returns-clause-exact
returns-clause-exact c =
    step_is _ _ c.requires.of _ _ _ _ c.edge-edge.result c.in_ok-mode.ensures c.in_ok-chosen.ensures c.edge-edge.ensures.is
    (same_number _ _ c.if-ne.ensures) (c.if-not-lives.ensures.0 refl)
