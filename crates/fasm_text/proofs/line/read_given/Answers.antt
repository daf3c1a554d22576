use Rattle.fasm_text.proofs.Giving.{gives_none, no_left, no_right, no_right_value}
use Rattle.fasm_text.proofs.line.read_given.Goals as goal

pub returns-in_err-field : goal.returns-in_err-field
returns-in_err-field c = rw c.from_residual.ensures (gives_none c.args.said.now c.in_default.ensures c.in_err-field.ensures)

pub returns-in_err-field-2 : goal.returns-in_err-field-2
returns-in_err-field-2 c =
    rw c.from_residual-in_err-field-2.ensures (no_left c.args.said.now c.in-Some.left.now c.in-Some.right.now c.in-Some.ensures c.in_err-field-2.ensures)

pub returns-in_err-one_word : goal.returns-in_err-one_word
returns-in_err-one_word c =
    rw c.from_residual-in_err-one_word.ensures (no_right c.args.said.now c.in-Some.left.now c.in-Some.right.now c.in-Some.ensures c.in_err-one_word.ensures)

pub returns-in_err-value : goal.returns-in_err-value
returns-in_err-value c =
    rw c.from_residual-in_err-value.ensures
    (no_right_value c.args.said.now c.in-Some.left.now c.in-Some.right.now c.in_ok-one_word.field-0.now c.in-Some.ensures c.in_ok-one_word.ensures c.in_err-value.ensures)
