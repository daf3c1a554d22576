use Rattle.std.proofs.Common.{◌≡◌, Some}
use Rattle.std.specs.Prelude.{slice_get}
use Rattle.list_laws.proofs.Members.{has_at}
use Rattle.pb_expand.specs.Graph.{pin_at}
use Rattle.task_reach.proofs.Growing.{gains_none}
use Rattle.task_reach.proofs.bits.put_bit.Goals as goal

pub returns-in_default-clause-gains : goal.returns-in_default-clause-gains
returns-in_default-clause-gains c =
    gains_none c.args.reached.now.items (λ q. slice_get c.args.graph.now.pins q ≡ Some (pin_at c.args.pb.0 c.args.port c.args.bit))
    (λ q is. c.in_default.ensures ((c.law.ensures.has_pins.exact c.args.pb.0 c.args.port c.args.bit).0 (has_at c.args.graph.now.pins q (pin_at c.args.pb.0 c.args.port c.args.bit) is)))
