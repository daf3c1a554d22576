use Rattle.blif_net.proofs.OneNetlist.{Knows, one_net, one_reason, not_both}
use Rattle.blif_net.proofs.laws.one_netlist.Goals as goal

pub returns : goal.returns
returns c =
    let knows : Knows = record {
      model = c.one_file.ensures.model;
      reason = c.one_file.ensures.refusal;
      never = c.one_file.ensures.never;
      fault = c.one_whole.ensures.one;
      sound = c.one_whole.ensures.never;
    } in
    record { netlist = one_net knows; refusal = one_reason knows; never = not_both knows }
