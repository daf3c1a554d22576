use Rattle.std.specs.List.{flat_map}
use Rattle.elem_text.specs.Written.{attr_text, IsPart}
use Rattle.elem_text.proofs.Parts.{written_none, written_more, written_all, written_part, on_err}
use Rattle.elem_text.proofs.WrittenUtf8.{utf8_step, utf8_end}
use Rattle.elem_text.proofs.writer.write_attrs.Goals as goal

pub loop-attr-init : goal.loop-attr-init
loop-attr-init c = record { written = written_none attr_text _ _; utf8 = λ u. u }

pub loop-attr-preserved : goal.loop-attr-preserved
loop-attr-preserved c = record {
  written = written_more attr_text _ _ _ _ _ _ _ c.loop-attr.invariant.written c.loop-attr-test.true c.attr-item.is c.in_ok-write_attr.ensures.text;
  utf8 = λ more. c.loop-attr.invariant.utf8 (utf8_step attr_text c.args.attrs.now c.loop-attr.attr-index c.attr-item.result c.loop-attr-test.true c.attr-item.is c.in_ok-write_attr.ensures.utf8 more);
}

pub returns-in_err-write_attr-clause-part : goal.returns-in_err-write_attr-clause-part
returns-in_err-write_attr-clause-part c =
    on_err (IsPart c.args.out.now.items (flat_map attr_text c.args.attrs.now) c.write_attr.new.out.items) c.from_residual.result
    (written_part attr_text _ _ _ _ _ _ _ c.loop-attr.invariant.written c.loop-attr-test.true c.attr-item.is c.in_err-write_attr.ensures.part)

pub returns-clause-text : goal.returns-clause-text
returns-clause-text c = written_all attr_text _ _ _ _ c.loop-attr.invariant.written c.loop-attr-test.false

pub returns-clause-utf8 : goal.returns-clause-utf8
returns-clause-utf8 c = c.loop-attr.invariant.utf8 (utf8_end attr_text c.args.attrs.now c.loop-attr.attr-index c.loop-attr-test.false)
