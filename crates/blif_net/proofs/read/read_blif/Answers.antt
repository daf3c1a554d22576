use Rattle.std.proofs.lemmas.Result.{err_from_is_err_and}
use Rattle.blif_net.proofs.Netlists.{says_netlist, refused_whole}
use Rattle.blif_net.proofs.read.read_blif.Goals as goal

pub returns-in_err-netlist-clause-refused : goal.returns-in_err-netlist-clause-refused
returns-in_err-netlist-clause-refused c =
    let p = err_from_is_err_and c.from_residual-in_err-netlist.result c.from_residual-in_err-netlist.ensures.1 in
    rw (p.1, p.2) (refused_whole c.args.arch.now.models c.args.bytes.now c.in_ok-parts.parts c.in_err-netlist.field-0.0 c.in_ok-parts.ensures.model c.in_err-netlist.ensures.refused)

pub returns-clause-netlist : goal.returns-clause-netlist
returns-clause-netlist c =
    says_netlist c.args.arch.now.models c.args.bytes.now c.in_ok-parts.parts c.in_ok-netlist.netlist c.in_ok-parts.ensures.model c.in_ok-parts.ensures.keeps c.in_ok-netlist.ensures.netlist c.law.ensures
