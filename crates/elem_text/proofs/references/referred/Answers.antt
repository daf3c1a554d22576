use Rattle.std.proofs.Common.{[], ◌∷◌}
use Rattle.elem_text.proofs.Numbered.{is_lt, is_gt, is_amp, is_quot, is_apos, is_hex, is_decimal, ref_none, later_semicolon}
use Rattle.elem_text.proofs.references.referred.Goals as goal

pub returns-in-Some-clause-exact : goal.returns-in-Some-clause-exact
returns-in-Some-clause-exact c = is_lt _ _ c.in-Some.ensures.0 c.in-Some.ensures.1

pub returns-in-Some-clause-semicolon : goal.returns-in-Some-clause-semicolon
returns-in-Some-clause-semicolon c = (108 ∷ 116 ∷ [], c.in-Some.ensures.1)

pub returns-in-Some-behind_word-clause-exact : goal.returns-in-Some-behind_word-clause-exact
returns-in-Some-behind_word-clause-exact c = is_gt _ _ c.in_default.ensures c.in-Some-behind_word.ensures.0 c.in-Some-behind_word.ensures.1

pub returns-in-Some-behind_word-clause-semicolon : goal.returns-in-Some-behind_word-clause-semicolon
returns-in-Some-behind_word-clause-semicolon c = (103 ∷ 116 ∷ [], c.in-Some-behind_word.ensures.1)

pub returns-in-Some-behind_word-2-clause-exact : goal.returns-in-Some-behind_word-2-clause-exact
returns-in-Some-behind_word-2-clause-exact c = is_amp _ _ c.in_default.ensures c.in_default-behind_word.ensures c.in-Some-behind_word-2.ensures.0 c.in-Some-behind_word-2.ensures.1

pub returns-in-Some-behind_word-2-clause-semicolon : goal.returns-in-Some-behind_word-2-clause-semicolon
returns-in-Some-behind_word-2-clause-semicolon c = (97 ∷ 109 ∷ 112 ∷ [], c.in-Some-behind_word-2.ensures.1)

pub returns-in-Some-behind_word-3-clause-exact : goal.returns-in-Some-behind_word-3-clause-exact
returns-in-Some-behind_word-3-clause-exact c = is_quot _ _ c.in_default.ensures c.in_default-behind_word.ensures c.in_default-behind_word-2.ensures c.in-Some-behind_word-3.ensures.0 c.in-Some-behind_word-3.ensures.1

pub returns-in-Some-behind_word-3-clause-semicolon : goal.returns-in-Some-behind_word-3-clause-semicolon
returns-in-Some-behind_word-3-clause-semicolon c = (113 ∷ 117 ∷ 111 ∷ 116 ∷ [], c.in-Some-behind_word-3.ensures.1)

pub returns-in-Some-behind_word-4-clause-exact : goal.returns-in-Some-behind_word-4-clause-exact
returns-in-Some-behind_word-4-clause-exact c = is_apos _ _ c.in_default.ensures c.in_default-behind_word.ensures c.in_default-behind_word-2.ensures c.in_default-behind_word-3.ensures c.in-Some-behind_word-4.ensures.0 c.in-Some-behind_word-4.ensures.1

pub returns-in-Some-behind_word-4-clause-semicolon : goal.returns-in-Some-behind_word-4-clause-semicolon
returns-in-Some-behind_word-4-clause-semicolon c = (97 ∷ 112 ∷ 111 ∷ 115 ∷ [], c.in-Some-behind_word-4.ensures.1)

pub returns-in-Some-behind_word-5-clause-exact : goal.returns-in-Some-behind_word-5-clause-exact
returns-in-Some-behind_word-5-clause-exact c = is_hex _ _ _ (record { lt = c.in_default.ensures; gt = c.in_default-behind_word.ensures; amp = c.in_default-behind_word-2.ensures; quot = c.in_default-behind_word-3.ensures; apos = c.in_default-behind_word-4.ensures }) c.in-Some-behind_word-5.ensures.0 c.in-Some-behind_word-5.ensures.1 c.number.ensures.exact c.number.ensures.semicolon

pub returns-in-Some-behind_word-5-clause-semicolon : goal.returns-in-Some-behind_word-5-clause-semicolon
returns-in-Some-behind_word-5-clause-semicolon c = later_semicolon _ (35 ∷ 120 ∷ []) _ _ c.in-Some-behind_word-5.ensures.1 c.number.ensures.semicolon

pub returns-in-Some-behind_word-6-clause-exact : goal.returns-in-Some-behind_word-6-clause-exact
returns-in-Some-behind_word-6-clause-exact c = is_decimal _ _ _ (record { lt = c.in_default.ensures; gt = c.in_default-behind_word.ensures; amp = c.in_default-behind_word-2.ensures; quot = c.in_default-behind_word-3.ensures; apos = c.in_default-behind_word-4.ensures }) c.in_default-behind_word-5.ensures c.in-Some-behind_word-6.ensures.0 c.in-Some-behind_word-6.ensures.1 c.number-in-Some-behind_word-6.ensures.exact c.number-in-Some-behind_word-6.ensures.semicolon

pub returns-in-Some-behind_word-6-clause-semicolon : goal.returns-in-Some-behind_word-6-clause-semicolon
returns-in-Some-behind_word-6-clause-semicolon c = later_semicolon _ (35 ∷ []) _ _ c.in-Some-behind_word-6.ensures.1 c.number-in-Some-behind_word-6.ensures.semicolon

pub returns-clause-exact : goal.returns-clause-exact
returns-clause-exact c = ref_none _ (record { lt = c.in_default.ensures; gt = c.in_default-behind_word.ensures; amp = c.in_default-behind_word-2.ensures; quot = c.in_default-behind_word-3.ensures; apos = c.in_default-behind_word-4.ensures }) c.in_default-behind_word-5.ensures c.in_default-behind_word-6.ensures
