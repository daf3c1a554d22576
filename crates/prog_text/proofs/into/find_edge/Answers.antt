use Rattle.std.proofs.Common.{◌≡◌, ◌∙◌, refl, sym}
use Rattle.prog_map.proofs.Instances.{mode_there}
use Rattle.prog_map.proofs.Sides.{untrue}
use Rattle.prog_text.proofs.Wanted.{none_at_root, other_above, wanted_above}
use Rattle.prog_text.proofs.into.find_edge.Goals as goal

pub returns-in-None : goal.returns-in-None
returns-in-None c =
    none_at_root _ c.law.ensures _ _ _ c.pin_at.result c.pin_at.ensures.is (c.in-None.ensures.root.0 refl) c.in_default.ensures

pub mode_name-requires-clause-mode : goal.mode_name-requires-clause-mode
mode_name-requires-clause-mode c = mode_there _ _ _ c.law.ensures c.in-Some-address_of.ensures.step

pub returns-then-not-is_same : goal.returns-then-not-is_same
returns-then-not-is_same c =
    other_above _ c.law.ensures _ _ c.mode_name.result.now _ c.pin_at.result c.in-Some-address_of.step c.pin_at.ensures.is c.in-Some-address_of.ensures.step c.in_default.ensures
    c.mode_name.ensures (λ same. untrue _ c.if-not-is_same.true (c.is_same.ensures.1 (c.as_bytes.ensures.value ∙ same)))

pub returns-else-not-is_same : goal.returns-else-not-is_same
returns-else-not-is_same c =
    wanted_above _ c.law.ensures _ _ c.mode_name.result.now _ c.pin_at.result c.in-Some-address_of.step c.pin_at.ensures.is c.in-Some-address_of.ensures.step c.in_default.ensures
    c.mode_name.ensures (sym c.as_bytes.ensures.value ∙ c.is_same.ensures.0 c.if-not-is_same.false) _ c.find_in_mode.ensures
