use Rattle.std.proofs.Common.{◌∙◌, ap, subst}
use Rattle.arch_types.specs.declared.block.PbType.{PbType}
use Rattle.mode_edges.specs.Readers.{NamesBits}
use Rattle.mode_edges.proofs.names.PortNames.bits.Goals as goal

pub returns : goal.returns
returns c =
    subst (λ ports. NamesBits ports c.args.word.now c.port_bits.result) (c.as_slice.ensures ∙ ap (λ (p : PbType). p.ports) c.self.view_is) c.port_bits.ensures
