use Rattle.std.proofs.Common.{◌≡◌, ◌∙◌, ◌++◌, ap}
use Rattle.elem_text.specs.Written.{text_of}
use Rattle.elem_text.proofs.Written.{same_back, not_back}
use Rattle.elem_text.proofs.laws.read_back.Goals as goal

pub returns-clause-same : goal.returns-clause-same
returns-clause-same c = λ w.
    let text : c.as_slice.result.now ≡ text_of c.args.elem.now = c.as_slice.ensures.value ∙ (c.in_ok-write_elem.ensures.text ∙ ap (λ l. l ++ text_of c.args.elem.now) c.new-text.ensures.items) in
    same_back c.args.elem.now c.as_slice.result.now c.read_elems.result text (c.in_ok-write_elem.ensures.reads_back w) c.read_elems.ensures.found

pub returns-clause-memory : goal.returns-clause-memory
returns-clause-memory c = λ w.
    let text : c.as_slice.result.now ≡ text_of c.args.elem.now = c.as_slice.ensures.value ∙ (c.in_ok-write_elem.ensures.text ∙ ap (λ l. l ++ text_of c.args.elem.now) c.new-text.ensures.items) in
    not_back c.args.elem.now c.as_slice.result.now c.read_elems.result text (c.in_ok-write_elem.ensures.reads_back w) c.read_elems.ensures.refused
