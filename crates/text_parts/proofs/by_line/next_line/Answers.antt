use Rattle.std.proofs.Common.{length, refl}
use Rattle.text_parts.proofs.Cutting.{line_cut, last_line}
use Rattle.text_parts.proofs.Wording.{is_empty_false}
use Rattle.text_parts.proofs.by_line.next_line.Goals as goal

pub returns-in-Some-clause-line : goal.returns-in-Some-clause-line
returns-in-Some-clause-line c =
    line_cut c.args.bytes.now c.in-Some.whole.now c.in-Some.rest.now c.without_return.result.now c.in-Some.ensures c.without_return.ensures

pub returns-in-None-clause-line : goal.returns-in-None-clause-line
returns-in-None-clause-line c =
    last_line c.args.bytes.now _ (is_empty_false (length c.args.bytes.now) c.is_empty.result c.is_empty.ensures c.if-is_empty.false) c.in-None.ensures refl
