use Rattle.std.proofs.Common.{refl, inl, inr}
use Rattle.prog_text.proofs.Spoken.{no_pin_line}
use Rattle.prog_text.proofs.Resolved.{pin_lacks_site, pin_lacks_choice, pin_named, none_from, wanted_inside}
use Rattle.prog_text.proofs.resolve.pin_setting.Goals as goal

pub returns-in_default-clause-lacks : goal.returns-in_default-clause-lacks
returns-in_default-clause-lacks c = (refl, no_pin_line _ (λ a b d are. c.in_default.ensures a b d are))

pub returns-in_default-pin-clause-lacks : goal.returns-in_default-pin-clause-lacks
returns-in_default-pin-clause-lacks c = (refl, pin_lacks_site _ _ _ _ _ c.in-Some.ensures (inl c.in_default-pin.ensures))

pub returns-in_default-find_edge-clause-lacks : goal.returns-in_default-find_edge-clause-lacks
returns-in_default-find_edge-clause-lacks c =
    (refl, pin_lacks_site _ _ _ _ _ c.in-Some.ensures (inr (_, c.in-Some-pin.ensures, c.in_default-find_edge.ensures)))

pub returns-in_default-pin-2-clause-lacks : goal.returns-in_default-pin-2-clause-lacks
returns-in_default-pin-2-clause-lacks c =
    (refl, pin_lacks_choice _ _ _ _ _ c.in-Some.ensures _ c.in-Some-pin.ensures _ c.in-Some-find_edge.ensures (inl c.in_default-pin-2.ensures))

pub edge-requires : goal.edge-requires
edge-requires c = wanted_inside _ _ _ _ _ c.in-Some-find_edge-2.ensures

pub returns-in-Some-find_edge-2-clause-names : goal.returns-in-Some-find_edge-2-clause-names
returns-in-Some-find_edge-2-clause-names c =
    pin_named _ _ _ _ _ c.in-Some.ensures _ _ _ c.edge.result c.in-Some-pin.ensures c.in-Some-pin-2.ensures c.in-Some-find_edge-2.ensures c.edge.ensures.is

pub returns-in-None-clause-lacks : goal.returns-in-None-clause-lacks
returns-in-None-clause-lacks c = (
  refl,
  pin_lacks_choice _ _ _ _ _ c.in-Some.ensures _ c.in-Some-pin.ensures _ c.in-Some-find_edge.ensures
      (inr (_, c.in-Some-pin-2.ensures, none_from _ _ _ _ c.in-None.ensures)),
)
