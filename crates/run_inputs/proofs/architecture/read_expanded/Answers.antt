use Rattle.std.proofs.lemmas.Result.{err_from_is_err_and}
use Rattle.run_inputs.proofs.Read.{reads_arch, blocks_stopped}
use Rattle.run_inputs.proofs.architecture.read_expanded.Goals as goal

pub returns-in_err-graphs-clause-stopped : goal.returns-in_err-graphs-clause-stopped
returns-in_err-graphs-clause-stopped g c =
    let p = err_from_is_err_and c.from_residual-in_err-graphs.result c.from_residual-in_err-graphs.ensures.1 in
    rw (p.1, p.2) (blocks_stopped _ c.args.file.now c.in_ok-architecture.architecture c.in_err-graphs.field-0.0
    (reads_arch _ _ _ _ _ c.in_ok-bytes.ensures.fetched c.as_slice.ensures.value c.in_ok-architecture.ensures.spells) c.in_err-graphs.ensures.stopped)
