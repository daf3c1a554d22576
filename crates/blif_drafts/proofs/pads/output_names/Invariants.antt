use Rattle.std.proofs.Common.{◌≡◌, map, take}
use Rattle.blif_elems.specs.Seen.{texts}
use Rattle.blif_parts.specs.Adds.{out_name}
use Rattle.blif_drafts.proofs.pads.output_names.Given as goal

abbrev pub invariant-loop-net : goal.invariant-loop-net
invariant-loop-net l = l.names.items ≡ map out_name (texts (take l.net-index l.nets))
