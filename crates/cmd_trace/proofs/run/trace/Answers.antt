use Rattle.std.proofs.Common.{refl}
use Rattle.std.proofs.lemmas.Result.{err_from_is_err_and}
use Rattle.run_base.proofs.Later.{fetched_in}
use Rattle.cmd_trace.proofs.Traced.{expands_in, graph_at, root_at, traced, prog_unfetched, no_block, prog_stopped}
use Rattle.cmd_trace.proofs.Completed.{fetched_but_memory, named_but_memory, spelled}
use Rattle.cmd_trace.proofs.run.trace.Goals as goal

pub returns-in_err-bytes-clause-stopped : goal.returns-in_err-bytes-clause-stopped
returns-in_err-bytes-clause-stopped g c =
    let p = err_from_is_err_and c.from_residual-in_err-bytes.result c.from_residual-in_err-bytes.ensures.1 in
    rw (p.1, p.2) (prog_unfetched (g.S.Shelf.files c.args.shelf.now) (g.S.Shelf.files c.read_expanded.new.shelf) _ _ _ c.args.arch.now c.args.block.now c.args.prog.now
    _ _ c.in_err-bytes.field-0.0 c.read_expanded.ensures.held c.read_expanded.ensures.count c.in_ok-expanded.ensures.reads c.in_err-bytes.ensures.stopped)

pub returns-in_err-number-clause-stopped : goal.returns-in_err-number-clause-stopped
returns-in_err-number-clause-stopped g c =
    let p = err_from_is_err_and c.from_residual-in_err-number.result c.from_residual-in_err-number.ensures.1 in
    rw (p.1, p.2) (no_block _ c.args.arch.now c.args.block.now c.args.prog.now _ _ _ c.in_err-number.field-0.0
    (expands_in _ _ _ _ _ _ _ c.in_ok-expanded.ensures.reads)
    (fetched_in _ (g.S.Shelf.files c.read_expanded.new.shelf) _ _ _ _ _ _ c.read_expanded.ensures.held c.in_ok-bytes.ensures.fetched) c.in_err-number.ensures.stopped)

pub returns-in_err-text-clause-stopped : goal.returns-in_err-text-clause-stopped
returns-in_err-text-clause-stopped g c =
    let p = err_from_is_err_and c.from_residual-in_err-text.result c.from_residual-in_err-text.ensures.1 in
    rw (p.1, p.2) (prog_stopped _ c.args.arch.now c.args.block.now c.args.prog.now c.index.result.now _ _ c.in_err-text.field-0.0
    (graph_at _ _ _ _ _ _ c.index.result.now (expands_in _ _ _ _ _ _ _ c.in_ok-expanded.ensures.reads) c.in_ok-number.ensures.named c.in_ok-number.ensures.inside c.index.ensures)
    (fetched_in _ (g.S.Shelf.files c.read_expanded.new.shelf) _ _ _ _ _ _ c.read_expanded.ensures.held c.in_ok-bytes.ensures.fetched)
    c.as_slice.ensures.value c.in_err-text.ensures.stopped)

pub returns-clause-answer : goal.returns-clause-answer
returns-clause-answer g c = (
  refl,
  traced _ c.args.arch.now c.args.block.now c.args.prog.now c.index.result.now _ _ _
      (graph_at _ _ _ _ _ _ c.index.result.now (expands_in _ _ _ _ _ _ _ c.in_ok-expanded.ensures.reads) c.in_ok-number.ensures.named c.in_ok-number.ensures.inside c.index.ensures)
      (fetched_in _ (g.S.Shelf.files c.read_expanded.new.shelf) _ _ _ _ _ _ c.read_expanded.ensures.held c.in_ok-bytes.ensures.fetched)
      c.as_slice.ensures.value c.in_ok-text.ensures.text,
)

pub text_of-requires : goal.text_of-requires
text_of-requires g c =
    c.plain_names.ensures c.in_ok-number.number c.index.result.now.root
    (root_at _ _ _ c.index.result.now c.in_ok-expanded.ensures.reads.are c.in_ok-number.ensures.inside c.index.ensures)

pub returns-in_err-expanded-clause-complete : goal.returns-in_err-expanded-clause-complete
returns-in_err-expanded-clause-complete g c valid =
    let p = err_from_is_err_and c.from_residual.result c.from_residual.ensures.1 in
    rw (p.1, p.2) (c.valid_is_read.ensures.read _ c.args.arch.now _ c.in_err-expanded.field-0.0 valid.calm valid.is_arch c.in_err-expanded.ensures.stopped)

pub returns-in_err-bytes-clause-complete : goal.returns-in_err-bytes-clause-complete
returns-in_err-bytes-clause-complete g c valid =
    let p = err_from_is_err_and c.from_residual-in_err-bytes.result c.from_residual-in_err-bytes.ensures.1 in
    rw (p.1, p.2) (fetched_but_memory (g.S.Shelf.files c.args.shelf.now) (g.S.Shelf.files c.read_expanded.new.shelf) _ _ _ c.args.arch.now c.args.block.now c.args.prog.now
    c.in_err-bytes.field-0.0 c.read_expanded.ensures.held c.read_expanded.ensures.count valid c.in_err-bytes.ensures.stopped)

pub returns-in_err-number-clause-complete : goal.returns-in_err-number-clause-complete
returns-in_err-number-clause-complete g c valid =
    let p = err_from_is_err_and c.from_residual-in_err-number.result c.from_residual-in_err-number.ensures.1 in
    rw (p.1, p.2) (named_but_memory c.valid_is_read.ensures.one _ c.args.arch.now c.args.block.now c.args.prog.now _ _ c.in_err-number.field-0.0
    (expands_in _ _ _ _ _ _ _ c.in_ok-expanded.ensures.reads) valid c.in_err-number.ensures.stopped)

pub returns-in_err-text-clause-complete : goal.returns-in_err-text-clause-complete
returns-in_err-text-clause-complete g c valid =
    let p = err_from_is_err_and c.from_residual-in_err-text.result c.from_residual-in_err-text.ensures.1 in
    let said = spelled c.valid_is_read.ensures.one _ c.args.arch.now c.args.block.now c.args.prog.now c.index.result.now _ _
    (graph_at _ _ _ _ _ _ c.index.result.now (expands_in _ _ _ _ _ _ _ c.in_ok-expanded.ensures.reads) c.in_ok-number.ensures.named c.in_ok-number.ensures.inside c.index.ensures)
    (fetched_in _ (g.S.Shelf.files c.read_expanded.new.shelf) _ _ _ _ _ _ c.read_expanded.ensures.held c.in_ok-bytes.ensures.fetched)
    c.as_slice.ensures.value valid in
    rw (p.1, p.2) (c.in_err-text.ensures.complete said.0 said.1)
