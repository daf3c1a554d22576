use Rattle.std.proofs.Common.{◌∙◌, ◌++◌, ap, get_or, refl}
use Rattle.elem_text.specs.Written.{escape, escaped, IsPart}
use Rattle.elem_text.proofs.Parts.{written_none, written_more, written_all, written_part, on_err}
use Rattle.elem_text.proofs.WrittenUtf8.{escaped_utf8}
use Rattle.elem_text.proofs.writer.write_escaped.Goals as goal

pub loop-b-init : goal.loop-b-init
loop-b-init c = written_none escape _ _

pub loop-b-preserved : goal.loop-b-preserved
loop-b-preserved c = written_more escape _ _ (get_or c.as_bytes-b-items.result.now c.loop-b.b-index 0) 0 _ _ _ c.loop-b.invariant c.loop-b-test.true refl c.in_ok-write_byte.ensures.text

pub returns-in_err-write_byte-clause-utf8 : goal.returns-in_err-write_byte-clause-utf8
returns-in_err-write_byte-clause-utf8 c = escaped_utf8 c.args.text.now c.utf8.text

pub returns-in_err-write_byte-clause-part : goal.returns-in_err-write_byte-clause-part
returns-in_err-write_byte-clause-part c =
    let here = written_part escape _ _ (get_or c.as_bytes-b-items.result.now c.loop-b.b-index 0) 0 _ _ _ c.loop-b.invariant c.loop-b-test.true refl c.in_err-write_byte.ensures.part in
    on_err (IsPart c.args.out.now.items (escaped c.args.text.now) c.write_byte.new.out.items) c.from_residual.result (rw c.as_bytes-b-items.ensures.value at here)

pub returns-clause-text : goal.returns-clause-text
returns-clause-text c = written_all escape _ _ _ _ c.loop-b.invariant c.loop-b-test.false ∙ ap (λ x. c.args.out.now.items ++ escaped x) c.as_bytes-b-items.ensures.value

pub returns-clause-utf8 : goal.returns-clause-utf8
returns-clause-utf8 c = escaped_utf8 c.args.text.now c.utf8.text
