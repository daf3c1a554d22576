use Rattle.std.proofs.lemmas.Result.{err_from_is_err_and}
use Rattle.arch_links.proofs.Telling.{tells_file}
use Rattle.arch_links.proofs.check.check_links.Goals as goal

pub returns-in_err-check_sites-clause-refused : goal.returns-in_err-check_sites-clause-refused
returns-in_err-check_sites-clause-refused c =
    let p = err_from_is_err_and c.from_residual.result c.from_residual.ensures.1 in
    rw (p.1, p.2) (tells_file c.args.root.now c.args.arch.now _ (rw (← c.as_slice.ensures, ← c.as_slice-2.ensures) c.in_err-check_sites.ensures.misfit))
