use Rattle.elem_text.proofs.Numbered.{no_semicolon, digits_utf8, no_number, no_scalar, is_number}
use Rattle.elem_text.proofs.references.number.Goals as goal

pub returns-in_default-clause-exact : goal.returns-in_default-clause-exact
returns-in_default-clause-exact c = no_semicolon _ _ _ _ c.digits.ensures c.in_default.ensures

pub returns-in_default-from_utf8-clause-exact : goal.returns-in_default-from_utf8-clause-exact
returns-in_default-from_utf8-clause-exact c =
    absurd (c.in_default-from_utf8.ensures.cases.0 (digits_utf8 _ _ _ _ c.digits.ensures c.requires.most))

pub returns-in_default-from_str_radix-clause-exact :
    goal.returns-in_default-from_str_radix-clause-exact
returns-in_default-from_str_radix-clause-exact c =
    no_number _ _ _ _ c.digits.ensures c.requires.most (rw c.in-Ok.ensures.cases.0 at c.in_default-from_str_radix.ensures.value)

pub returns-in_default-from_u32-clause-exact : goal.returns-in_default-from_u32-clause-exact
returns-in_default-from_u32-clause-exact c =
    let v = rw c.in-Ok.ensures.cases.0 at c.in-Ok-from_str_radix.ensures.value in
    no_scalar _ _ _ _ c.digits.ensures c.requires.most _ v.1 c.in_default-from_u32.ensures.value

pub returns-clause-exact : goal.returns-clause-exact
returns-clause-exact c =
    let v = rw c.in-Ok.ensures.cases.0 at c.in-Ok-from_str_radix.ensures.value in
    let u = c.in-Some-from_u32.ensures.value in
    is_number _ _ _ _ c.digits.ensures c.requires.most _ _ _ c.in-Some.ensures v.0.0 v.1 u.0 u.1
