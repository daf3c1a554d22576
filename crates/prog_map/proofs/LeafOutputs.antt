-- Edges into outputs are of instances with modes.
use Rattle.std.proofs.Common.{◌≡◌, Option, Some, None, refl, subst}
use Rattle.std.specs.Prelude.{slice_get}
use Rattle.std.specs.Option.{option_and_then}
use Rattle.arch_types.specs.declared.block.PbType.{PbType}
use Rattle.arch_types.specs.declared.block.Side.TheVariants.{Output}
use Rattle.pb_expand.specs.declared.number.PbIx.{PbIx}
use Rattle.pb_expand.specs.declared.number.PinAt.{PinAt}
use Rattle.pb_expand.specs.Graph.{Graph, block_at}
use Rattle.pb_expand.specs.Kept.{IsOn, HasSides}
use Rattle.prog_map.specs.Leaves.{IsOutput, HasModes}
use Rattle.prog_map.proofs.OneStep.{EndAtModes}
use Rattle.prog_map.proofs.SiteOrder.{mode_counted, counted_modes}

on_output : (g : Graph) (pin : PinAt) → IsOutput g pin → IsOn g pin Output
on_output g pin output = by (block_at g pin.pb.0) refl output.is
  where
    by : (o : Option PbType) → block_at g pin.pb.0 ≡ o → option_and_then (λ (b : PbType). slice_get b.ports pin.port) o ≡ Some output.port → IsOn g pin Output
    by None e is = absurd (cc)
    by (Some block) e is = record { block = block; is_block = e; port = output.port; is_port = is; on = output.side }

pub ends_at_modes : (g : Graph) → HasSides g → EndAtModes g
ends_at_modes g sides = record {
  each = λ e pin has at output.
      let owner : e.owner ≡ pin.pb = sides.own e pin has at (on_output g pin output) in
      subst (λ (x : PbIx). HasModes g x.0) owner (counted_modes g e.owner.0 e.mode (mode_counted g e.owner.0 e.mode (sides.modes e has)));
}
