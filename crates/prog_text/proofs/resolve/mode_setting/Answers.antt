use Rattle.std.proofs.Common.{refl}
use Rattle.prog_text.proofs.Spoken.{no_mode}
use Rattle.prog_text.proofs.Resolved.{mode_named, mode_lacks_site, mode_lacks_choice}
use Rattle.prog_text.proofs.resolve.mode_setting.Goals as goal

pub returns-in_default-clause-lacks : goal.returns-in_default-clause-lacks
returns-in_default-clause-lacks c = (refl, no_mode _ (λ a b are. c.in_default.ensures a b are))

pub returns-in_default-block_named-clause-lacks : goal.returns-in_default-block_named-clause-lacks
returns-in_default-block_named-clause-lacks c = (refl, mode_lacks_site _ _ _ _ c.in-Some.ensures c.in_default-block_named.ensures)

pub returns-in-Some-mode-clause-names : goal.returns-in-Some-mode-clause-names
returns-in-Some-mode-clause-names c =
    mode_named _ _ _ _ c.in-Some.ensures _ _ c.in-Some-block_named.ensures c.in-Some-mode.ensures

pub returns-in-None-clause-lacks : goal.returns-in-None-clause-lacks
returns-in-None-clause-lacks c = (refl, mode_lacks_choice _ _ _ _ c.in-Some.ensures _ c.in-Some-block_named.ensures c.in-None.ensures)
