use Rattle.std.proofs.lemmas.Result.{err_from_is_err_and}
use Rattle.run_tasks.specs.Words.{words_said}
use Rattle.cmd_refute.proofs.Judged.{task_in, valid_here, plain_here, fits_here, tree_unfetched, tree_stopped, answers}
use Rattle.cmd_refute.proofs.Complete.{fetched_but_memory, spelled}
use Rattle.cmd_refute.proofs.run.refute.Goals as goal

pub returns-in_err-bytes-clause-stopped : goal.returns-in_err-bytes-clause-stopped
returns-in_err-bytes-clause-stopped g c =
    let p = err_from_is_err_and c.from_residual-in_err-bytes.result c.from_residual-in_err-bytes.ensures.1 in
    rw (p.1, p.2) (tree_unfetched c.fetch_laws.ensures.fetched c.fetch_laws.ensures.stopped (g.S.Shelf.files c.args.shelf.now) (g.S.Shelf.files c.read_task.new.shelf) _ _ _
    (words_said c.args.words.now) c.args.tree.now _ c.in_err-bytes.field-0.0 c.read_task.ensures.held c.read_task.ensures.count c.in_ok-input.ensures.reads c.in_err-bytes.ensures.stopped)

pub returns-in_err-verdict-clause-stopped : goal.returns-in_err-verdict-clause-stopped
returns-in_err-verdict-clause-stopped g c =
    let p = err_from_is_err_and c.from_residual-in_err-verdict.result c.from_residual-in_err-verdict.ensures.1 in
    rw (p.1, p.2) (tree_stopped _ (words_said c.args.words.now) c.args.tree.now _ c.graph-graph.result.now _ _ c.in_err-verdict.field-0.0
    (task_in c.fetch_laws.ensures.fetched _ _ _ _ (words_said c.args.words.now) _ c.in_ok-input.ensures.reads) c.graph-graph.ensures
    (c.fetch_laws.ensures.fetched _ (g.S.Shelf.files c.read_task.new.shelf) _ _ _ _ _ _ c.read_task.ensures.held c.in_ok-bytes.ensures.fetched)
    c.as_slice.ensures.value c.in_err-verdict.ensures.stopped)

pub returns-in_err-input-clause-complete : goal.returns-in_err-input-clause-complete
returns-in_err-input-clause-complete g c valid =
    let p = err_from_is_err_and c.from_residual.result c.from_residual.ensures.1 in
    rw (p.1, p.2) (c.in_err-input.ensures.complete valid.input)

pub returns-in_err-bytes-clause-complete : goal.returns-in_err-bytes-clause-complete
returns-in_err-bytes-clause-complete g c valid =
    let p = err_from_is_err_and c.from_residual-in_err-bytes.result c.from_residual-in_err-bytes.ensures.1 in
    rw (p.1, p.2) (fetched_but_memory c.fetch_laws.ensures.stopped c.fetch_laws.ensures.calm (g.S.Shelf.files c.args.shelf.now) (g.S.Shelf.files c.read_task.new.shelf) _ _ _
    (words_said c.args.words.now) c.args.tree.now c.in_err-bytes.field-0.0 c.read_task.ensures.held c.read_task.ensures.count valid c.in_err-bytes.ensures.stopped)

pub returns-in_err-verdict-clause-complete : goal.returns-in_err-verdict-clause-complete
returns-in_err-verdict-clause-complete g c valid =
    let p = err_from_is_err_and c.from_residual-in_err-verdict.result c.from_residual-in_err-verdict.ensures.1 in
    let said = spelled c.fetch_laws.ensures.once _ (words_said c.args.words.now) c.args.tree.now _ c.graph-graph.result.now _ _
    (task_in c.fetch_laws.ensures.fetched _ _ _ _ (words_said c.args.words.now) _ c.in_ok-input.ensures.reads) c.graph-graph.ensures
    (c.fetch_laws.ensures.fetched _ (g.S.Shelf.files c.read_task.new.shelf) _ _ _ _ _ _ c.read_task.ensures.held c.in_ok-bytes.ensures.fetched)
    c.as_slice.ensures.value valid in
    rw (p.1, p.2) (c.in_err-verdict.ensures.complete said.0 said.1)

pub verdict_on-requires-clause-plain : goal.verdict_on-requires-clause-plain
verdict_on-requires-clause-plain g c =
    plain_here _ (words_said c.args.words.now) _ c.graph-graph.result.now c.in_ok-input.ensures.reads c.graph-graph.ensures c.plain_names.ensures

pub returns-in-Ok-clause-answer : goal.returns-in-Ok-clause-answer
returns-in-Ok-clause-answer g c =
    answers _ (words_said c.args.words.now) c.args.tree.now _ c.graph-graph.result.now _ _ _ _
    (task_in c.fetch_laws.ensures.fetched _ _ _ _ (words_said c.args.words.now) _ c.in_ok-input.ensures.reads) c.graph-graph.ensures
    (c.fetch_laws.ensures.fetched _ (g.S.Shelf.files c.read_task.new.shelf) _ _ _ _ _ _ c.read_task.ensures.held c.in_ok-bytes.ensures.fetched)
    c.as_slice.ensures.value c.in_ok-verdict.ensures.judges c.in-Ok.ensures
