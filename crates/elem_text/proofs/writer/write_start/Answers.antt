use Rattle.std.proofs.Common.{◌∷◌, [], ◌++◌, IsUtf8}
use Rattle.std.specs.List.{flat_map}
use Rattle.elem_text.specs.declared.elem.Elem.{out-Elem}
use Rattle.elem_text.specs.Written.{escaped, attr_text, start_text, IsPart}
use Rattle.elem_text.proofs.Parts.{part_none, part_first, part_behind, on_err, on_err_then}
use Rattle.elem_text.proofs.WrittenUtf8.{start_utf8, on_ok}
use Rattle.elem_text.proofs.writer.write_start.Goals as goal

pub returns-clause-utf8 : goal.returns-clause-utf8
returns-clause-utf8 c =
    let whole : IsUtf8 (start_text c.args.elem.now) = start_utf8 c.args.elem.now (rw c.as_str.ensures at c.write_text.ensures.utf8) (rw c.as_slice.ensures at c.in_ok-write_attrs.ensures.utf8) (rw c.as_str-2.ensures at c.write_escaped.ensures.utf8) in
    on_ok (IsUtf8 (start_text c.args.elem.now)) c.write_escaped.result whole

pub returns-in_err-push-clause-part : goal.returns-in_err-push-clause-part
returns-in_err-push-clause-part c =
    on_err (IsPart c.args.out.now.items (start_text c.args.elem.now) c.push.new.self.items) c.from_residual.result (part_none _ _ _ c.in_err-push.ensures.items)

pub returns-in_err-write_text-clause-part : goal.returns-in_err-write_text-clause-part
returns-in_err-write_text-clause-part c =
    let e = out-Elem c.args.elem.now in
    let here = rw c.as_str.ensures at c.in_err-write_text.ensures.part in
    on_err (IsPart c.args.out.now.items (start_text c.args.elem.now) c.write_text.new.out.items) c.from_residual-in_err-write_text.result
    (part_behind _ (60 ∷ []) _ _ _ c.in_ok-push.ensures.items (part_first _ _ (flat_map attr_text e.attrs ++ 62 ∷ escaped e.text) _ here))

pub returns-in_err-write_attrs-clause-part : goal.returns-in_err-write_attrs-clause-part
returns-in_err-write_attrs-clause-part c =
    let e = out-Elem c.args.elem.now in
    let name = rw c.as_str.ensures at c.in_ok-write_text.ensures.text in
    let here = rw c.as_slice.ensures at c.in_err-write_attrs.ensures.part in
    on_err (IsPart c.args.out.now.items (start_text c.args.elem.now) c.write_attrs.new.out.items) c.from_residual-in_err-write_attrs.result
    (part_behind _ (60 ∷ []) _ _ _ c.in_ok-push.ensures.items (part_behind _ e.name _ _ _ name (part_first _ _ (62 ∷ escaped e.text) _ here)))

pub returns-in_err-push-2-clause-part : goal.returns-in_err-push-2-clause-part
returns-in_err-push-2-clause-part c =
    let e = out-Elem c.args.elem.now in
    let name = rw c.as_str.ensures at c.in_ok-write_text.ensures.text in
    let attrs = rw c.as_slice.ensures at c.in_ok-write_attrs.ensures.text in
    on_err (IsPart c.args.out.now.items (start_text c.args.elem.now) c.push-2.new.self.items) c.from_residual-in_err-push-2.result
    (part_behind _ (60 ∷ []) _ _ _ c.in_ok-push.ensures.items
    (part_behind _ e.name _ _ _ name (part_behind _ (flat_map attr_text e.attrs) (62 ∷ escaped e.text) _ _ attrs (part_none _ _ _ c.in_err-push-2.ensures.items))))

pub returns-clause-part : goal.returns-clause-part
returns-clause-part c =
    let e = out-Elem c.args.elem.now in
    let name = rw c.as_str.ensures at c.in_ok-write_text.ensures.text in
    let attrs = rw c.as_slice.ensures at c.in_ok-write_attrs.ensures.text in
    on_err_then (IsPart c.push-2.new.self.items (escaped c.as_str-2.result.now) c.write_escaped.new.out.items) (IsPart c.args.out.now.items (start_text c.args.elem.now) c.write_escaped.new.out.items)
    c.write_escaped.result
    (λ p.
    let here = rw c.as_str-2.ensures at p in
    part_behind _ (60 ∷ []) _ _ _ c.in_ok-push.ensures.items
    (part_behind _ e.name _ _ _ name (part_behind _ (flat_map attr_text e.attrs) _ _ _ attrs (part_behind _ (62 ∷ []) (escaped e.text) _ _ c.in_ok-push-2.ensures.items here)))) c.write_escaped.ensures.part
