use Rattle.std.proofs.Common.{refl}
use Rattle.blif_items.specs.Items.{outs_of}
use Rattle.blif_items.proofs.Placed.{outs_within}
use Rattle.blif_items.proofs.laws.outputs_are_nets.Goals as goal

pub returns : goal.returns
returns c = λ model ps old new pins net are has. outs_within model ps old new pins (outs_of pins) net are refl has
