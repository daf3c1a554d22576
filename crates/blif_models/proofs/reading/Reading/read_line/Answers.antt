use Rattle.std.proofs.lemmas.Result.{err_from_is_err_and}
use Rattle.blif_elems.specs.Seen.{said}
use Rattle.blif_lines.specs.Seen.{seen}
use Rattle.blif_phases.specs.Seen.{stop_said}
use Rattle.blif_models.proofs.Lining.{holds_words, is_narrow, refused_here, refused_there}
use Rattle.blif_models.proofs.reading.Reading.read_line.Goals as goal

pub add-requires : goal.add-requires
add-requires c =
    is_narrow c.args.self.now.phase (seen c.args.line.now) c.in-Ok.next (said c.in-Ok.statement)
    (c.in-Ok.ensures (seen c.args.line.now) (holds_words c.args.line.now c.in_ok-words.words.items c.as_slice.result.now c.requires c.in_ok-words.ensures c.as_slice.ensures.value))

pub returns-in_err-add-in-Ok-clause-refused : goal.returns-in_err-add-in-Ok-clause-refused
returns-in_err-add-in-Ok-clause-refused c =
    let p = err_from_is_err_and c.from_residual-in_err-add-in-Ok.result c.from_residual-in_err-add-in-Ok.ensures.1 in
    rw (p.1, p.2)
    (refused_there c.args.models.now c.args.self.now.phase c.args.self.now.draft (seen c.args.line.now) c.in-Ok.next (said c.in-Ok.statement) c.in_err-add-in-Ok.field-0.0
    (c.in-Ok.ensures (seen c.args.line.now) (holds_words c.args.line.now c.in_ok-words.words.items c.as_slice.result.now c.requires c.in_ok-words.ensures c.as_slice.ensures.value)) c.in_err-add-in-Ok.ensures.refused)

pub returns-in-Ok-clause-read : goal.returns-in-Ok-clause-read
returns-in-Ok-clause-read c = λ m held.
    (let grown = c.in_ok-add-in-Ok.ensures.added m held in
    record {
      said = said c.in-Ok.statement;
      goes = c.in-Ok.ensures (seen c.args.line.now) (holds_words c.args.line.now c.in_ok-words.words.items c.as_slice.result.now c.requires c.in_ok-words.ensures c.as_slice.ensures.value);
      new = grown.new;
      adds = grown.adds;
      holds = grown.holds;
    })

pub returns-clause-refused : goal.returns-clause-refused
returns-clause-refused c =
    refused_here c.args.models.now c.args.self.now.phase c.args.self.now.draft (seen c.args.line.now) (stop_said c.in-Err.stop) c.in_ok-refusal-in-Err.field-0
    (c.in-Err.ensures (seen c.args.line.now) (holds_words c.args.line.now c.in_ok-words.words.items c.as_slice.result.now c.requires c.in_ok-words.ensures c.as_slice.ensures.value)) c.in_ok-refusal-in-Err.ensures
