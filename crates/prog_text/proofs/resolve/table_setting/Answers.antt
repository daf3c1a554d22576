use Rattle.std.proofs.Common.{refl}
use Rattle.prog_map.proofs.Sides.{untrue}
use Rattle.prog_text.proofs.Resolved.{table_no_inputs, table_other_size, table_named}
use Rattle.prog_text.proofs.resolve.table_setting.Goals as goal

pub returns-in_default-inputs_of-clause-lacks : goal.returns-in_default-inputs_of-clause-lacks
returns-in_default-inputs_of-clause-lacks c =
    (refl, table_no_inputs _ _ _ (c.if-not-are_bits.ensures.0 refl) _ c.in-Some.ensures c.in_default-inputs_of.ensures.inputs)

pub returns-then-not-is_table_size-clause-lacks : goal.returns-then-not-is_table_size-clause-lacks
returns-then-not-is_table_size-clause-lacks c = (
  refl,
  table_other_size _ _ _ _ _ _ (c.if-not-are_bits.ensures.0 refl) c.in-Some.ensures c.in-Some-inputs_of.ensures.inputs
      (λ same. untrue _ c.if-not-is_table_size.true (c.is_table_size.ensures.1 same)),
)

pub returns-clause-names : goal.returns-clause-names
returns-clause-names c =
    table_named _ _ _ _ _ _ _ (c.if-not-are_bits.ensures.0 refl) c.in-Some.ensures c.in-Some-inputs_of.ensures.inputs
    (c.if-not-is_table_size.ensures.0 refl) c.in_ok-bits.ensures
