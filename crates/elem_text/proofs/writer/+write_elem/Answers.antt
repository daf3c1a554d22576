use Rattle.std.proofs.Common.{◌≡◌, ◌++◌, IsUtf8}
use Rattle.elem_text.specs.Written.{text_of, end_text, IsPart, IsWritable, IsReadAs}
use Rattle.elem_text.proofs.Parts.{written_none, written_more, written_all, written_part, part_start, part_kids, part_end, all_parts, on_err, on_err_then}
use Rattle.elem_text.proofs.Written.{reads_back}
use Rattle.elem_text.proofs.WrittenUtf8.{utf8_step, utf8_end, whole_utf8, on_ok_then}
use Rattle.elem_text.proofs.writer.+write_elem.Goals as goal

pub loop-kid-init : goal.loop-kid-init
loop-kid-init t c = record { written = written_none text_of _ _; utf8 = λ u. u }

pub loop-kid-preserved : goal.loop-kid-preserved
loop-kid-preserved t c = record {
  written = written_more text_of _ _ _ _ _ _ _ c.loop-kid.invariant.written c.loop-kid-test.true c.kid-item.is c.in_ok-write_elem.ensures.text;
  utf8 = λ more.
      c.loop-kid.invariant.utf8
      (utf8_step text_of c.as_slice-kid-items.result.now c.loop-kid.kid-index c.kid-item.result c.loop-kid-test.true c.kid-item.is c.in_ok-write_elem.ensures.utf8 more);
}

pub returns-in_err-write_start-clause-part : goal.returns-in_err-write_start-clause-part
returns-in_err-write_start-clause-part t c =
    on_err (IsPart c.args.out.now.items (text_of c.args.elem.now) c.write_start.new.out.items) c.from_residual.result (part_start c.args.elem.now _ _ c.in_err-write_start.ensures.part)

pub returns-in_err-write_elem-clause-part : goal.returns-in_err-write_elem-clause-part
returns-in_err-write_elem-clause-part t c =
    on_err (IsPart c.args.out.now.items (text_of c.args.elem.now) c.write_elem.new.out.items) c.from_residual-in_err-write_elem.result
    (part_kids c.args.elem.now c.as_slice-kid-items.result.now c.as_slice-kid-items.ensures _ _ c.in_ok-write_start.ensures.text _
    (written_part text_of _ _ _ _ _ _ _ c.loop-kid.invariant.written c.loop-kid-test.true c.kid-item.is c.in_err-write_elem.ensures.part))

pub returns-clause-text : goal.returns-clause-text
returns-clause-text t c =
    let kids = written_all text_of _ _ _ _ c.loop-kid.invariant.written c.loop-kid-test.false in
    on_ok_then (c.write_end.new.out.items ≡ c.loop-kid.out.items ++ end_text c.args.elem.now) (c.write_end.new.out.items ≡ c.args.out.now.items ++ text_of c.args.elem.now) c.write_end.result
    (λ end. all_parts c.args.elem.now c.as_slice-kid-items.result.now c.as_slice-kid-items.ensures _ _ c.in_ok-write_start.ensures.text _ _ kids end) c.write_end.ensures.text

pub returns-clause-part : goal.returns-clause-part
returns-clause-part t c =
    let kids = written_all text_of _ _ _ _ c.loop-kid.invariant.written c.loop-kid-test.false in
    on_err_then (IsPart c.loop-kid.out.items (end_text c.args.elem.now) c.write_end.new.out.items) (IsPart c.args.out.now.items (text_of c.args.elem.now) c.write_end.new.out.items)
    c.write_end.result
    (λ end. part_end c.args.elem.now c.as_slice-kid-items.result.now c.as_slice-kid-items.ensures _ _ c.in_ok-write_start.ensures.text _ _ kids end) c.write_end.ensures.part

pub returns-clause-utf8 : goal.returns-clause-utf8
returns-clause-utf8 t c =
    let kids = c.loop-kid.invariant.utf8 (utf8_end text_of c.as_slice-kid-items.result.now c.loop-kid.kid-index c.loop-kid-test.false) in
    on_ok_then (IsUtf8 (end_text c.args.elem.now)) (IsUtf8 (text_of c.args.elem.now)) c.write_end.result
    (λ end. whole_utf8 c.args.elem.now c.as_slice-kid-items.result.now c.as_slice-kid-items.ensures c.in_ok-write_start.ensures.utf8 kids end) c.write_end.ensures.utf8

pub returns-clause-reads_back : goal.returns-clause-reads_back
returns-clause-reads_back t c =
    on_ok_then (IsUtf8 (text_of c.args.elem.now)) (IsWritable c.args.elem.now → IsReadAs (text_of c.args.elem.now) c.args.elem.now) c.write_end.result
    (λ u w. reads_back c.args.elem.now w u) (returns-clause-utf8 t c)
