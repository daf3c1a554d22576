use Rattle.std.proofs.Common.{arith}
use Rattle.elem_text.proofs.Utf8.{utf8_behind, utf8_behind_first}
use Rattle.elem_text.proofs.Referred.{nothing_left, decoded_referred, at_char}
use Rattle.elem_text.proofs.references.push_referred.Goals as goal

pub returns-in_default-clause-shorter : goal.returns-in_default-clause-shorter
returns-in_default-clause-shorter c = nothing_left _ c.requires.front c.in_default.ensures

pub returns-in_default-referred-clause-utf8 : goal.returns-in_default-referred-clause-utf8
returns-in_default-referred-clause-utf8 c = utf8_behind_first 38 _ (omega arith) (rw c.in-Some.ensures at c.requires.utf8)

pub returns-clause-utf8 : goal.returns-clause-utf8
returns-clause-utf8 c =
    let u = utf8_behind_first 38 _ (omega arith) (rw c.in-Some.ensures at c.requires.utf8) in
    let s = c.in-Some-referred.ensures.semicolon in
    utf8_behind s.0 _ 59 (omega arith) (rw s.1 at u)

pub returns-clause-stands : goal.returns-clause-stands
returns-clause-stands c =
    let s = c.in-Some-referred.ensures.semicolon in
    at_char _ _ _ _ c.in-Some.behind.now c.in-Some-referred.rest.now c.in_ok-push-2.ensures.ok c.in-Some.ensures (decoded_referred _ _ s.0 _ c.in-Some-referred.ensures.exact s.1)
