use Rattle.std.proofs.lemmas.Result.{err_from_is_err_and}
use Rattle.run_tasks.specs.Words.{words_said}
use Rattle.run_tasks.proofs.Stopped.{mapped_in, list_unfetched, no_block, list_stopped, reads_task}
use Rattle.run_tasks.proofs.Complete.{fetched_but_memory, named_but_memory, spelled}
use Rattle.run_tasks.proofs.input.read_task.Goals as goal

pub returns-in_err-bytes-clause-stopped : goal.returns-in_err-bytes-clause-stopped
returns-in_err-bytes-clause-stopped g c =
    let p = err_from_is_err_and c.from_residual-in_err-bytes.result c.from_residual-in_err-bytes.ensures.1 in
    rw (p.1, p.2) (list_unfetched c.fetch_laws.ensures.fetched c.fetch_laws.ensures.stopped (g.S.Shelf.files c.args.shelf.now) (g.S.Shelf.files c.read_mapped.new.shelf) _ _ _
    (words_said c.args.words.now) _ c.in_err-bytes.field-0.0 c.read_mapped.ensures.held c.read_mapped.ensures.count c.in_ok-mapped.ensures.reads c.in_err-bytes.ensures.stopped)

pub returns-in_err-block-clause-stopped : goal.returns-in_err-block-clause-stopped
returns-in_err-block-clause-stopped g c =
    let p = err_from_is_err_and c.from_residual-in_err-block.result c.from_residual-in_err-block.ensures.1 in
    rw (p.1, p.2) (no_block _ (words_said c.args.words.now) _ _ c.in_err-block.field-0.0
    (mapped_in c.fetch_laws.ensures.fetched _ _ _ _ (words_said c.args.words.now) _ c.in_ok-mapped.ensures.reads)
    (c.fetch_laws.ensures.fetched _ (g.S.Shelf.files c.read_mapped.new.shelf) _ _ _ _ _ _ c.read_mapped.ensures.held c.in_ok-bytes.ensures.fetched)
    c.in_err-block.ensures.stopped)

pub returns-in_err-task-clause-stopped : goal.returns-in_err-task-clause-stopped
returns-in_err-task-clause-stopped g c =
    let p = err_from_is_err_and c.from_residual-in_err-task.result c.from_residual-in_err-task.ensures.1 in
    rw (p.1, p.2) (list_stopped _ (words_said c.args.words.now) _ _ _ _ c.in_err-task.field-0.0
    (mapped_in c.fetch_laws.ensures.fetched _ _ _ _ (words_said c.args.words.now) _ c.in_ok-mapped.ensures.reads) c.in_ok-block.ensures.named
    (c.fetch_laws.ensures.fetched _ (g.S.Shelf.files c.read_mapped.new.shelf) _ _ _ _ _ _ c.read_mapped.ensures.held c.in_ok-bytes.ensures.fetched)
    c.as_slice.ensures.value c.in_err-task.ensures.stopped)

pub returns-clause-reads : goal.returns-clause-reads
returns-clause-reads g c =
    reads_task _ (words_said c.args.words.now) _ _ c.index-graph.result.now _ _ _
    (mapped_in c.fetch_laws.ensures.fetched _ _ _ _ (words_said c.args.words.now) _ c.in_ok-mapped.ensures.reads) c.in_ok-block.ensures.named c.in_ok-block.ensures.inside c.index-graph.ensures
    (c.fetch_laws.ensures.fetched _ (g.S.Shelf.files c.read_mapped.new.shelf) _ _ _ _ _ _ c.read_mapped.ensures.held c.in_ok-bytes.ensures.fetched)
    c.as_slice.ensures.value c.in_ok-task.ensures.task

pub returns-in_err-mapped-clause-complete : goal.returns-in_err-mapped-clause-complete
returns-in_err-mapped-clause-complete g c valid =
    let p = err_from_is_err_and c.from_residual.result c.from_residual.ensures.1 in
    rw (p.1, p.2) (c.in_err-mapped.ensures.complete valid.mapped)

pub returns-in_err-bytes-clause-complete : goal.returns-in_err-bytes-clause-complete
returns-in_err-bytes-clause-complete g c valid =
    let p = err_from_is_err_and c.from_residual-in_err-bytes.result c.from_residual-in_err-bytes.ensures.1 in
    rw (p.1, p.2) (fetched_but_memory c.fetch_laws.ensures.stopped c.fetch_laws.ensures.calm (g.S.Shelf.files c.args.shelf.now) (g.S.Shelf.files c.read_mapped.new.shelf) _ _ _
    (words_said c.args.words.now) c.in_err-bytes.field-0.0 c.read_mapped.ensures.held c.read_mapped.ensures.count valid c.in_err-bytes.ensures.stopped)

pub returns-in_err-block-clause-complete : goal.returns-in_err-block-clause-complete
returns-in_err-block-clause-complete g c valid =
    let p = err_from_is_err_and c.from_residual-in_err-block.result c.from_residual-in_err-block.ensures.1 in
    rw (p.1, p.2) (named_but_memory _ (words_said c.args.words.now) _ c.in_err-block.field-0.0
    (mapped_in c.fetch_laws.ensures.fetched _ _ _ _ (words_said c.args.words.now) _ c.in_ok-mapped.ensures.reads) valid c.in_err-block.ensures.stopped)

pub returns-in_err-task-clause-complete : goal.returns-in_err-task-clause-complete
returns-in_err-task-clause-complete g c valid =
    let p = err_from_is_err_and c.from_residual-in_err-task.result c.from_residual-in_err-task.ensures.1 in
    let said = spelled c.fetch_laws.ensures.once _ (words_said c.args.words.now) _ _ _
    (mapped_in c.fetch_laws.ensures.fetched _ _ _ _ (words_said c.args.words.now) _ c.in_ok-mapped.ensures.reads)
    (c.fetch_laws.ensures.fetched _ (g.S.Shelf.files c.read_mapped.new.shelf) _ _ _ _ _ _ c.read_mapped.ensures.held c.in_ok-bytes.ensures.fetched)
    c.as_slice.ensures.value valid in
    rw (p.1, p.2) (c.in_err-task.ensures.complete said.0 said.1)
