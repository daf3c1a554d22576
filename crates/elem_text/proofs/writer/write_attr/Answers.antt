use Rattle.std.proofs.Common.{◌∷◌, [], ◌++◌}
use Rattle.elem_text.specs.Written.{escaped, attr_text, IsPart}
use Rattle.elem_text.proofs.Parts.{part_none, part_first, part_behind, on_err}
use Rattle.elem_text.proofs.WrittenUtf8.{attr_utf8}
use Rattle.elem_text.proofs.writer.write_attr.Goals as goal

pub returns-clause-utf8 : goal.returns-clause-utf8
returns-clause-utf8 c = attr_utf8 c.args.attr.now (rw c.as_str.ensures at c.write_text.ensures.utf8) (rw c.as_str-2.ensures at c.write_escaped.ensures.utf8)

pub returns-in_err-push-clause-part : goal.returns-in_err-push-clause-part
returns-in_err-push-clause-part c =
    on_err (IsPart c.args.out.now.items (attr_text c.args.attr.now) c.push.new.self.items) c.from_residual.result (part_none _ _ _ c.in_err-push.ensures.items)

pub returns-in_err-write_text-clause-part : goal.returns-in_err-write_text-clause-part
returns-in_err-write_text-clause-part c =
    let here = rw c.as_str.ensures at c.in_err-write_text.ensures.part in
    on_err (IsPart c.args.out.now.items (attr_text c.args.attr.now) c.write_text.new.out.items) c.from_residual-in_err-write_text.result
    (part_behind _ (32 ∷ []) _ _ _ c.in_ok-push.ensures.items (part_first _ _ (61 ∷ 34 ∷ (escaped c.args.attr.now.value ++ 34 ∷ [])) _ here))

pub returns-in_err-extend_from_slice-clause-part : goal.returns-in_err-extend_from_slice-clause-part
returns-in_err-extend_from_slice-clause-part c =
    let name = rw c.as_str.ensures at c.in_ok-write_text.ensures.text in
    on_err (IsPart c.args.out.now.items (attr_text c.args.attr.now) c.extend_from_slice.new.self.items) c.from_residual-in_err-extend_from_slice.result
    (part_behind _ (32 ∷ []) _ _ _ c.in_ok-push.ensures.items
    (part_behind _ c.args.attr.now.name (61 ∷ 34 ∷ (escaped c.args.attr.now.value ++ 34 ∷ [])) _ _ name (part_none _ _ _ c.in_err-extend_from_slice.ensures.items)))

pub returns-in_err-write_escaped-clause-part : goal.returns-in_err-write_escaped-clause-part
returns-in_err-write_escaped-clause-part c =
    let name = rw c.as_str.ensures at c.in_ok-write_text.ensures.text in
    let here = rw c.as_str-2.ensures at c.in_err-write_escaped.ensures.part in
    on_err (IsPart c.args.out.now.items (attr_text c.args.attr.now) c.write_escaped.new.out.items) c.from_residual-in_err-write_escaped.result
    (part_behind _ (32 ∷ []) _ _ _ c.in_ok-push.ensures.items
    (part_behind _ c.args.attr.now.name _ _ _ name (part_behind _ (61 ∷ 34 ∷ []) _ _ _ c.in_ok-extend_from_slice.ensures.items (part_first _ _ (34 ∷ []) _ here))))

pub returns-in_err-push-2-clause-part : goal.returns-in_err-push-2-clause-part
returns-in_err-push-2-clause-part c =
    let name = rw c.as_str.ensures at c.in_ok-write_text.ensures.text in
    let value = rw c.as_str-2.ensures at c.in_ok-write_escaped.ensures.text in
    on_err (IsPart c.args.out.now.items (attr_text c.args.attr.now) c.push-2.new.self.items) c.from_residual-in_err-push-2.result
    (part_behind _ (32 ∷ []) _ _ _ c.in_ok-push.ensures.items
    (part_behind _ c.args.attr.now.name _ _ _ name
    (part_behind _ (61 ∷ 34 ∷ []) _ _ _ c.in_ok-extend_from_slice.ensures.items (part_behind _ (escaped c.args.attr.now.value) (34 ∷ []) _ _ value (part_none _ _ _ c.in_err-push-2.ensures.items)))))
