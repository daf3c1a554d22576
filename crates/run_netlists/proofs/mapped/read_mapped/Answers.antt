use Rattle.std.proofs.lemmas.Result.{err_from_is_err_and}
use Rattle.run_netlists.proofs.Stopped.{expands_in, blif_unfetched, blif_stopped, reads_netlist}
use Rattle.run_netlists.proofs.Complete.{fetched_but_memory, spelled}
use Rattle.run_netlists.proofs.mapped.read_mapped.Goals as goal

pub returns-in_err-bytes-clause-stopped : goal.returns-in_err-bytes-clause-stopped
returns-in_err-bytes-clause-stopped g c =
    let p = err_from_is_err_and c.from_residual-in_err-bytes.result c.from_residual-in_err-bytes.ensures.1 in
    rw (p.1, p.2) (blif_unfetched c.fetch_laws.ensures.fetched c.fetch_laws.ensures.stopped (g.S.Shelf.files c.args.shelf.now) (g.S.Shelf.files c.read_expanded.new.shelf) _ _ _
    c.args.arch.now c.args.blif.now _ _ c.in_err-bytes.field-0.0 c.read_expanded.ensures.held c.read_expanded.ensures.count c.in_ok-expanded.ensures.reads
    c.in_err-bytes.ensures.stopped)

pub returns-in_err-netlist-clause-stopped : goal.returns-in_err-netlist-clause-stopped
returns-in_err-netlist-clause-stopped g c =
    let p = err_from_is_err_and c.from_residual-in_err-netlist.result c.from_residual-in_err-netlist.ensures.1 in
    rw (p.1, p.2) (blif_stopped _ c.args.arch.now c.args.blif.now _ _ _ _ c.in_err-netlist.field-0.0
    (expands_in c.fetch_laws.ensures.fetched _ _ _ _ _ _ _ c.in_ok-expanded.ensures.reads)
    (c.fetch_laws.ensures.fetched _ (g.S.Shelf.files c.read_expanded.new.shelf) _ _ _ _ _ _ c.read_expanded.ensures.held c.in_ok-bytes.ensures.fetched)
    c.as_slice.ensures.value c.in_err-netlist.ensures.stopped)

pub returns-clause-reads : goal.returns-clause-reads
returns-clause-reads g c = record {
  expands = expands_in c.fetch_laws.ensures.fetched _ _ _ _ _ _ _ c.in_ok-expanded.ensures.reads;
  netlist = reads_netlist _ c.args.blif.now _ _ _ _
      (c.fetch_laws.ensures.fetched _ (g.S.Shelf.files c.read_expanded.new.shelf) _ _ _ _ _ _ c.read_expanded.ensures.held c.in_ok-bytes.ensures.fetched)
      c.as_slice.ensures.value c.in_ok-netlist.ensures.says;
}

pub returns-in_err-expanded-clause-complete : goal.returns-in_err-expanded-clause-complete
returns-in_err-expanded-clause-complete g c valid =
    let p = err_from_is_err_and c.from_residual.result c.from_residual.ensures.1 in
    rw (p.1, p.2) (c.valid_is_read.ensures.read _ c.args.arch.now _ c.in_err-expanded.field-0.0 valid.calm valid.is_arch c.in_err-expanded.ensures.stopped)

pub returns-in_err-bytes-clause-complete : goal.returns-in_err-bytes-clause-complete
returns-in_err-bytes-clause-complete g c valid =
    let p = err_from_is_err_and c.from_residual-in_err-bytes.result c.from_residual-in_err-bytes.ensures.1 in
    rw (p.1, p.2) (fetched_but_memory c.fetch_laws.ensures.stopped c.fetch_laws.ensures.calm (g.S.Shelf.files c.args.shelf.now) (g.S.Shelf.files c.read_expanded.new.shelf) _ _ _
    c.args.arch.now c.args.blif.now c.in_err-bytes.field-0.0 c.read_expanded.ensures.held c.read_expanded.ensures.count valid c.in_err-bytes.ensures.stopped)

pub returns-in_err-netlist-clause-complete : goal.returns-in_err-netlist-clause-complete
returns-in_err-netlist-clause-complete g c valid =
    let p = err_from_is_err_and c.from_residual-in_err-netlist.result c.from_residual-in_err-netlist.ensures.1 in
    let said = spelled c.valid_is_read.ensures.one c.fetch_laws.ensures.once _ c.args.arch.now c.args.blif.now _ _ _ _
    (expands_in c.fetch_laws.ensures.fetched _ _ _ _ _ _ _ c.in_ok-expanded.ensures.reads)
    (c.fetch_laws.ensures.fetched _ (g.S.Shelf.files c.read_expanded.new.shelf) _ _ _ _ _ _ c.read_expanded.ensures.held c.in_ok-bytes.ensures.fetched)
    c.as_slice.ensures.value valid in
    rw (p.1, p.2) (c.in_err-netlist.ensures.complete said.0 said.1)
