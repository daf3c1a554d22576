use Rattle.std.proofs.Common.{refl}
use Rattle.prog_map.proofs.Sides.{untrue}
use Rattle.prog_text.proofs.Spoken.{no_lut_line, wire_said, said_wire, table_said, said_table, other_lut, all_lack, all_name}
use Rattle.prog_text.proofs.resolve.lut_setting.Goals as goal

pub returns-in_default-clause-lacks : goal.returns-in_default-clause-lacks
returns-in_default-clause-lacks c = (refl, no_lut_line _ (λ a b d are. c.in_default.ensures a b d are))

pub returns-then-is_same-clause-names : goal.returns-then-is_same-clause-names
returns-then-is_same-clause-names c =
    all_name _ _ _ _ (wire_said _ _ _ _ c.in-Some.ensures (c.if-is_same.ensures.0 refl)) c.wire_setting.ensures.names

pub returns-then-is_same-clause-lacks : goal.returns-then-is_same-clause-lacks
returns-then-is_same-clause-lacks c =
    all_lack _ _ _ _ _ (wire_said _ _ _ _ c.in-Some.ensures (c.if-is_same.ensures.0 refl)) (said_wire _ _ _ _ c.in-Some.ensures (c.if-is_same.ensures.0 refl))
    c.wire_setting.ensures.lacks

pub returns-then-is_same-2-clause-names : goal.returns-then-is_same-2-clause-names
returns-then-is_same-2-clause-names c =
    all_name _ _ _ _ (table_said _ _ _ _ c.in-Some.ensures (c.if-is_same-2.ensures.0 refl)) c.table_setting.ensures.names

pub returns-then-is_same-2-clause-lacks : goal.returns-then-is_same-2-clause-lacks
returns-then-is_same-2-clause-lacks c =
    all_lack _ _ _ _ _ (table_said _ _ _ _ c.in-Some.ensures (c.if-is_same-2.ensures.0 refl))
    (said_table _ _ _ _ c.in-Some.ensures (c.if-is_same-2.ensures.0 refl)) c.table_setting.ensures.lacks

pub returns-clause-lacks : goal.returns-clause-lacks
returns-clause-lacks c = (
  refl,
  other_lut _ _ _ _ c.in-Some.ensures (λ same. untrue _ c.if-is_same.false (c.is_same.ensures.1 same))
      (λ same. untrue _ c.if-is_same-2.false (c.is_same-2.ensures.1 same)),
)
