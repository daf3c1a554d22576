use Rattle.std.proofs.Common.{refl}
use Rattle.prog_map.proofs.Sides.{untrue}
use Rattle.prog_text.proofs.Spoken.{no_keyword, other_keyword, behind_said, said_behind, all_lack, all_name}
use Rattle.prog_text.proofs.resolve.setting_of.Goals as goal

pub returns-in_default-first_word-clause-lacks : goal.returns-in_default-first_word-clause-lacks
returns-in_default-first_word-clause-lacks c = (refl, no_keyword _ c.in_default-first_word.ensures)

pub returns-clause-lacks : goal.returns-clause-lacks
returns-clause-lacks c = (
  refl,
  other_keyword _ _ _ c.in-Some.ensures (λ same. untrue _ c.if-is_same.false (c.is_same.ensures.1 same))
      (λ same. untrue _ c.if-is_same-2.false (c.is_same-2.ensures.1 same)) (λ same. untrue _ c.if-is_same-3.false (c.is_same-3.ensures.1 same))
      (λ same. untrue _ c.if-is_same-4.false (c.is_same-4.ensures.1 same)),
)

pub returns-then-is_same-clause-lacks : goal.returns-then-is_same-clause-lacks
returns-then-is_same-clause-lacks c =
    all_lack _ _ _ _ _ (behind_said _ _ _ _ c.in-Ok.ensures.cases.1 c.in-Some.ensures (c.if-is_same.ensures.0 refl))
    (said_behind _ _ _ _ c.in-Some.ensures (c.if-is_same.ensures.0 refl)) c.mode_setting.ensures.lacks

pub returns-then-is_same-2-clause-lacks : goal.returns-then-is_same-2-clause-lacks
returns-then-is_same-2-clause-lacks c =
    all_lack _ _ _ _ _ (behind_said _ _ _ _ c.in-Ok.ensures.cases.1 c.in-Some.ensures (c.if-is_same-2.ensures.0 refl))
    (said_behind _ _ _ _ c.in-Some.ensures (c.if-is_same-2.ensures.0 refl)) c.pin_setting.ensures.lacks

pub returns-then-is_same-3-clause-lacks : goal.returns-then-is_same-3-clause-lacks
returns-then-is_same-3-clause-lacks c =
    all_lack _ _ _ _ _ (behind_said _ _ _ _ c.in-Ok.ensures.cases.1 c.in-Some.ensures (c.if-is_same-3.ensures.0 refl))
    (said_behind _ _ _ _ c.in-Some.ensures (c.if-is_same-3.ensures.0 refl)) c.used_setting.ensures.lacks

pub returns-then-is_same-4-clause-names : goal.returns-then-is_same-4-clause-names
returns-then-is_same-4-clause-names c =
    all_name _ _ _ _ (behind_said _ _ _ _ c.in-Ok.ensures.cases.1 c.in-Some.ensures (c.if-is_same-4.ensures.0 refl)) c.lut_setting.ensures.names

pub returns-then-is_same-4-clause-lacks : goal.returns-then-is_same-4-clause-lacks
returns-then-is_same-4-clause-lacks c =
    all_lack _ _ _ _ _ (behind_said _ _ _ _ c.in-Ok.ensures.cases.1 c.in-Some.ensures (c.if-is_same-4.ensures.0 refl))
    (said_behind _ _ _ _ c.in-Some.ensures (c.if-is_same-4.ensures.0 refl)) c.lut_setting.ensures.lacks
