use Rattle.std.proofs.Common.{◌≡◌, ◌≤◌, codes, length, refl, arith}
use Rattle.arch_rules.specs.Elements.{name_of, Holds}
use Rattle.arch_rules.specs.Numbers.{IsOne}
use Rattle.arch_rules.proofs.Loops.{below_step, all_of, below_none}
use Rattle.arch_rules.proofs.shape.are_single.Goals as goal

pub loop-port-preserved : goal.loop-port-preserved
loop-port-preserved c =
    below_step (λ port. name_of port ≡ c.args.side.now → Holds port (codes "num_pins") IsOne) _ c.loop-port.port-index c.port-item.result
    c.loop-port-test.true c.port-item.is c.loop-port.invariant (c.is_single.ensures.0 c.if-not-is_single.false)

pub returns-then-not-is_single : goal.returns-then-not-is_single
returns-then-not-is_single c = (
  λ is. cc,
  λ all. absurd (below_none (λ port. name_of port ≡ c.args.side.now → Holds port (codes "num_pins") IsOne) _ _ c.loop-port.port-index c.port-item.result
      c.loop-port-test.true c.port-item.is c.as_slice-port-items.ensures (λ one. let told = c.is_single.ensures.1 one in cc) all),
)

pub returns : goal.returns
returns c =
    let whole : length c.as_slice-port-items.result.now ≤ c.loop-port.port-index = omega arith in (
      λ is. all_of (λ port. name_of port ≡ c.args.side.now → Holds port (codes "num_pins") IsOne) _ _ c.loop-port.port-index whole
          c.as_slice-port-items.ensures c.loop-port.invariant,
      λ all. refl,
    )
