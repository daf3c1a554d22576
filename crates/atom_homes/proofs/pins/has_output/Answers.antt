use Rattle.std.proofs.Common.{refl, arith}
use Rattle.atom_homes.specs.Homes.{IsOutputAt}
use Rattle.atom_homes.proofs.Scans.{has_item, none_more, none_all}
use Rattle.atom_homes.proofs.pins.has_output.Goals as goal

pub loop-port-init : goal.loop-port-init
loop-port-init c = λ x has is. has

pub loop-port-preserved : goal.loop-port-preserved
loop-port-preserved c =
    none_more (IsOutputAt c.args.conn.now) c.args.ports.now c.loop-port.port-index c.port-item.result c.loop-port-test.true c.port-item.is c.loop-port.invariant
    (λ at. (let t = c.is_output_at.ensures.1 at in absurd (grind (arith, t, c.if-is_output_at.false))))

pub returns-then-is_output_at : goal.returns-then-is_output_at
returns-then-is_output_at c = (
  λ t. record {
    port = c.port-item.result;
    there = has_item c.args.ports.now c.loop-port.port-index c.port-item.result c.loop-port-test.true c.port-item.is;
    at = c.is_output_at.ensures.0 c.if-is_output_at.true;
  },
  λ h. refl,
)

pub returns : goal.returns
returns c =
    let none = none_all (IsOutputAt c.args.conn.now) c.args.ports.now c.loop-port.port-index c.loop-port-test.false c.loop-port.invariant in
    (λ t. absurd (grind arith), λ h. absurd (none h.port h.there h.at))
