use Rattle.std.proofs.Common.{nat_eq}
use Rattle.rr_wires.specs.declared.types.WireIx.{WireIx}
use Rattle.rr_wires.proofs.Keys.{key_found, nat_same, nat_itself}
use Rattle.rr_wires.proofs.numbers.WireNumbers.of_node.Goals as goal

pub returns : goal.returns
returns c =
    rw (← c.self.view_is, c.copied.ensures, c.get.ensures.value) (key_found {V = WireIx} nat_eq nat_same nat_itself c.self.inside.nodes.entries c.args.id)
