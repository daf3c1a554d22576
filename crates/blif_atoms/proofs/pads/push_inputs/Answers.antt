use Rattle.std.proofs.Common.{slice_index_or}
use Rattle.std.proofs.lemmas.Option.{slice_get-get_or}
use Rattle.list_laws.proofs.Members.{has_at}
use Rattle.blif_atoms.proofs.pads.push_inputs.Goals as goal

pub input_pad-requires : goal.input_pad-requires
input_pad-requires c =
    let nets = c.args.inputs.now in
    let at = c.loop-net.net-index in
    c.requires (slice_index_or nets at 0) (has_at nets at (slice_index_or nets at 0) (slice_get-get_or nets at 0 c.loop-net-test.true))
