use Rattle.std.proofs.Common.{◌≤◌, length, refl, arith}
use Rattle.arch_rules.specs.Rules.{IsWideInput}
use Rattle.arch_rules.proofs.Loops.{below_step, all_of, item_of}
use Rattle.arch_rules.proofs.shape.has_wide_input.Goals as goal

pub loop-port-preserved : goal.loop-port-preserved
loop-port-preserved c =
    below_step (λ port. IsWideInput port → ⊥) _ c.loop-port.port-index c.port-item.result c.loop-port-test.true c.port-item.is c.loop-port.invariant
    (λ wide. let told = c.is_wide.ensures.1 wide in cc)

pub returns-then-is_wide : goal.returns-then-is_wide
returns-then-is_wide c = (
  λ is. (
    c.loop-port.port-index,
    c.port-item.result,
    item_of _ _ c.loop-port.port-index c.port-item.result c.loop-port-test.true c.port-item.is c.as_slice-port-items.ensures,
    c.is_wide.ensures.0 c.if-is_wide.true,
  ),
  λ has. refl,
)

pub returns : goal.returns
returns c =
    let whole : length c.as_slice-port-items.result.now ≤ c.loop-port.port-index = omega arith in (
      λ is. cc,
      λ has. absurd (all_of (λ port. IsWideInput port → ⊥) _ _ c.loop-port.port-index whole c.as_slice-port-items.ensures c.loop-port.invariant
          has.0 has.1 has.2 has.3),
    )
