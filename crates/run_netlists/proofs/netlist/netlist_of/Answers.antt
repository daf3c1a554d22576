use Rattle.run_netlists.proofs.Stopped.{refused_netlist}
use Rattle.run_netlists.proofs.Complete.{refused_for_memory}
use Rattle.run_netlists.proofs.netlist.netlist_of.Goals as goal

pub returns-in-Err-clause-stopped : goal.returns-in-Err-clause-stopped
returns-in-Err-clause-stopped c =
    refused_netlist c.args.architecture.now c.args.file.now c.args.bytes.now c.in-Err.error c.refused_by.result c.in-Err.ensures.refused c.refused_by.ensures

pub returns-in-Err-clause-complete : goal.returns-in-Err-clause-complete
returns-in-Err-clause-complete c n says =
    refused_for_memory c.one_netlist.ensures.never _ c.args.file.now c.args.bytes.now n c.in-Err.error c.refused_by.result says
    c.in-Err.ensures.refused c.refused_by.ensures
