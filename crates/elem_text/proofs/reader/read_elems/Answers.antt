use Rattle.std.proofs.Common.{arith, ap, length}
use Rattle.std.proofs.lemmas.Result.{IfOk-weaker}
use Rattle.elem_text.proofs.Utf8.{mark_utf8}
use Rattle.elem_text.proofs.HeldUtf8.{file_utf8}
use Rattle.elem_text.proofs.HeldFew.{file_few}
use Rattle.elem_text.proofs.reader.read_elems.Goals as goal

pub read_body-requires : goal.read_body-requires
read_body-requires c = mark_utf8 _ (rw c.in-Some.ensures.1 at c.in-Ok.ensures.cases.1)

pub returns-in-Some-clause-utf8 : goal.returns-in-Some-clause-utf8
returns-in-Some-clause-utf8 c =
    IfOk-weaker c.read_body.result _ _ (λ e f. file_utf8 _ _ e (mark_utf8 _ (rw c.in-Some.ensures.1 at c.in-Ok.ensures.cases.1)) f) c.read_body.ensures.found

pub returns-in-Some-clause-few : goal.returns-in-Some-clause-few
returns-in-Some-clause-few c =
    IfOk-weaker c.read_body.result _ _ (λ e f. omega (arith, file_few _ _ e f, ap length c.in-Some.ensures.1)) c.read_body.ensures.found

pub returns-clause-utf8 : goal.returns-clause-utf8
returns-clause-utf8 c = IfOk-weaker c.read_body-2.result _ _ (λ e f. file_utf8 _ _ e c.in-Ok.ensures.cases.1 f) c.read_body-2.ensures.found

pub returns-clause-few : goal.returns-clause-few
returns-clause-few c = IfOk-weaker c.read_body-2.result _ _ (λ e f. file_few _ _ e f) c.read_body-2.ensures.found
