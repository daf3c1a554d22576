use Rattle.std.proofs.Common.{refl}
use Rattle.arch_rules.proofs.Found.{found, found_later}
use Rattle.arch_rules.proofs.attr.attribute.Goals as goal

pub returns-then-is : goal.returns-then-is
returns-then-is c =
    found _ c.loop-attr.attr-index _ c.attr-item.result c.loop-attr-test.true c.attr-item.is c.loop-attr.invariant _ c.as_slice-attr-items.ensures
    (c.if-is.ensures.0 refl)

pub loop-attr-preserved : goal.loop-attr-preserved
loop-attr-preserved c = found_later _ c.loop-attr.attr-index _ c.attr-item.result c.loop-attr-test.true c.attr-item.is c.loop-attr.invariant (λ same. let told = c.if-is.ensures.1 same in cc)
