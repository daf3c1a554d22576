use Rattle.std.proofs.Common.{◌∷◌, []}
use Rattle.elem_text.specs.declared.elem.Elem.{out-Elem}
use Rattle.elem_text.specs.Written.{end_text, IsPart}
use Rattle.elem_text.proofs.Parts.{part_none, part_first, part_behind, on_err}
use Rattle.elem_text.proofs.WrittenUtf8.{end_utf8}
use Rattle.elem_text.proofs.writer.write_end.Goals as goal

pub returns-clause-utf8 : goal.returns-clause-utf8
returns-clause-utf8 c = end_utf8 c.args.elem.now (rw c.as_str.ensures at c.write_text.ensures.utf8)

pub returns-in_err-extend_from_slice-clause-part : goal.returns-in_err-extend_from_slice-clause-part
returns-in_err-extend_from_slice-clause-part c =
    on_err (IsPart c.args.out.now.items (end_text c.args.elem.now) c.extend_from_slice.new.self.items) c.from_residual.result (part_none _ _ _ c.in_err-extend_from_slice.ensures.items)

pub returns-in_err-write_text-clause-part : goal.returns-in_err-write_text-clause-part
returns-in_err-write_text-clause-part c =
    let here = rw c.as_str.ensures at c.in_err-write_text.ensures.part in
    on_err (IsPart c.args.out.now.items (end_text c.args.elem.now) c.write_text.new.out.items) c.from_residual-in_err-write_text.result
    (part_behind _ (60 ∷ 47 ∷ []) _ _ _ c.in_ok-extend_from_slice.ensures.items (part_first _ _ (62 ∷ []) _ here))

pub returns-in_err-push-clause-part : goal.returns-in_err-push-clause-part
returns-in_err-push-clause-part c =
    let name = rw c.as_str.ensures at c.in_ok-write_text.ensures.text in
    on_err (IsPart c.args.out.now.items (end_text c.args.elem.now) c.push.new.self.items) c.from_residual-in_err-push.result
    (part_behind _ (60 ∷ 47 ∷ []) _ _ _ c.in_ok-extend_from_slice.ensures.items (part_behind _ (out-Elem c.args.elem.now).name (62 ∷ []) _ _ name (part_none _ _ _ c.in_err-push.ensures.items)))
