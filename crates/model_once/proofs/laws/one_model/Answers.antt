use Rattle.model_once.proofs.Adding.{one_adding}
use Rattle.model_once.proofs.Failing.{one_failure, never_fails}
use Rattle.model_once.proofs.Lines.{one_model, one_refusal, never_both}
use Rattle.model_once.proofs.Parts.{one_parts}
use Rattle.model_once.proofs.laws.one_model.Goals as goal

pub returns : goal.returns
returns c =
    let steps = c.one_reading.ensures in
    let book = c.one_book.ensures in
    let pins = c.one_reading-2.ensures in
    let row = c.one_table.ensures.row in
    let adds = one_adding book pins row in
    let fails = one_failure book pins row in
    let never = never_fails book pins row in
    record {
      model = one_model steps.steps steps.stops steps.never adds fails never;
      refusal = one_refusal steps.steps steps.stops steps.never adds fails never;
      never = never_both steps.steps steps.stops steps.never adds fails never;
      parts = one_parts c.one_table.ensures.table;
    }
