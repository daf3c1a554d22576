use Rattle.std.proofs.Common.{refl}
use Rattle.prog_text.proofs.Resolved.{used_named, used_lacks_site}
use Rattle.prog_text.proofs.resolve.used_setting.Goals as goal

pub returns-in-Some-clause-names : goal.returns-in-Some-clause-names
returns-in-Some-clause-names c = used_named _ _ (c.if-not-is_one_word.ensures.0 refl) _ c.in-Some.ensures

pub returns-in-None-clause-lacks : goal.returns-in-None-clause-lacks
returns-in-None-clause-lacks c = (refl, used_lacks_site _ _ (c.if-not-is_one_word.ensures.0 refl) c.in-None.ensures)
