use Rattle.std.proofs.Common.{◌∙◌, ap}
use Rattle.std.specs.Prelude.{codes}
use Rattle.std.specs.List.{starts_with}
use Rattle.std.proofs.Math.Dec.{eqb}
use Rattle.blif_elems.proofs.Latches.{untrue}
use Rattle.blif_elems.proofs.Naming.{net_is}
use Rattle.blif_elems.proofs.nets.is_net.Goals as goal

pub returns : goal.returns
returns c =
    net_is c.starts_with.result c.args.name.now (λ same. untrue c.is_same.result (c.is_same.ensures.1 same) c.if-is_same.false)
    (c.starts_with.ensures.value ∙ ap (λ t. starts_with eqb t (codes "Netlist_File:")) c.as_bytes.ensures.value)
