use Rattle.std.proofs.lemmas.Result.{err_from_is_err_and}
use Rattle.arch_files.proofs.Told.{rule_refused, link_refused}
use Rattle.arch_files.proofs.read.read_arch.Goals as goal

pub returns-in_err-check_file-clause-refused : goal.returns-in_err-check_file-clause-refused
returns-in_err-check_file-clause-refused c =
    let p = err_from_is_err_and c.from_residual-in_err-check_file.result c.from_residual-in_err-check_file.ensures.1 in
    rw (p.1, p.2) (rule_refused c.args.bytes.now c.in_ok-root.root c.in_err-check_file.field-0.0 c.in_ok-root.ensures.found c.in_err-check_file.ensures.broken)

pub returns-in_err-check_links-clause-refused : goal.returns-in_err-check_links-clause-refused
returns-in_err-check_links-clause-refused c =
    let p = err_from_is_err_and c.from_residual-in_err-check_links.result c.from_residual-in_err-check_links.ensures.1 in
    rw (p.1, p.2) (link_refused c.args.bytes.now c.in_ok-root.root c.in_ok-parts.parts c.in_err-check_links.field-0.0 c.in_ok-root.ensures.found
    c.in_ok-check_file.ensures.fine c.in_ok-parts.ensures c.in_err-check_links.ensures.refused)
