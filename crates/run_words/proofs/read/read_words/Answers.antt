use Rattle.std.proofs.Common.{string_bytes}
use Rattle.std.proofs.lemmas.Result.{err_from_is_err_and}
use Rattle.run_words.proofs.Rest.{read_command, refused_command, wrong_name, no_name}
use Rattle.run_words.proofs.read.read_words.Goals as goal

pub returns-in_err-reading-clause-refused : goal.returns-in_err-reading-clause-refused
returns-in_err-reading-clause-refused c =
    let p = err_from_is_err_and c.from_residual.result c.from_residual.ensures.1 in
    rw (p.1, p.2) (refused_command string_bytes c.args.words.now c.args.table.now c.name-item.result c.as_str.result.now c.in-Some.row _ c.in_err-reading.field-0.0
    c.in-len1-up.len_at_least c.name-item.is c.as_str.ensures.value c.in-Some.ensures c.in_err-reading.ensures.refused)

pub returns-clause-read : goal.returns-clause-read
returns-clause-read c =
    read_command string_bytes c.args.words.now c.args.table.now c.name-item.result c.as_str.result.now c.in-Some.row _ _
    c.in-len1-up.len_at_least c.name-item.is c.as_str.ensures.value c.in-Some.ensures c.in_ok-reading.ensures.read
