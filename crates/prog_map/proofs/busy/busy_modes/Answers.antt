use Rattle.std.proofs.Common.{◌∙◌}
use Rattle.std.proofs.lemmas.Result.{IfOk-weaker}
use Rattle.prog_map.specs.Tables.{AreBusyIn}
use Rattle.prog_map.proofs.BusyModes.{keys_inside, busy_table}
use Rattle.prog_map.proofs.busy.busy_modes.Goals as goal

pub from_pairs-requires-clause-keys : goal.from_pairs-requires-clause-keys
from_pairs-requires-clause-keys c =
    keys_inside c.args.graph.now c.law.ensures _ c.in_ok-pairs.ensures.each _ _ (c.as_slice.ensures.value ∙ c.in_ok-push_edge_pairs.ensures) c.pbs.ensures

pub returns : goal.returns
returns c =
    IfOk-weaker c.from_pairs.result _ (AreBusyIn c.args.graph.now)
    (λ table is. busy_table c.args.graph.now c.law.ensures _ c.in_ok-pairs.ensures.each _ _ table (c.as_slice.ensures.value ∙ c.in_ok-push_edge_pairs.ensures) c.pbs.ensures is)
    c.from_pairs.ensures
