use Rattle.arch_build.proofs.Found.{found_later}
use Rattle.arch_build.proofs.layout.prefix_of.Goals as goal

pub loop-meta-preserved : goal.loop-meta-preserved
loop-meta-preserved c = found_later _ c.loop-meta.meta-index _ c.meta-item.result c.loop-meta-test.true c.meta-item.is c.loop-meta.invariant (λ same. let told = c.if-is.ensures.1 same in cc)
