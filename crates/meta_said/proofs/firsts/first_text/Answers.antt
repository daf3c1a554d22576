use Rattle.meta_said.proofs.Firsting.{first_at, lacks_at, untrue}
use Rattle.meta_said.proofs.firsts.first_text.Goals as goal

pub returns-then-is : goal.returns-then-is
returns-then-is c =
    first_at c.args.name.now c.args.metas.now c.loop-meta.meta-index c.meta-item.result c.as_bytes.result.now c.loop-meta-test.true c.meta-item.is c.loop-meta.invariant
    (c.is.ensures.0 c.if-is.true) c.as_bytes.ensures

pub loop-meta-preserved : goal.loop-meta-preserved
loop-meta-preserved c =
    lacks_at c.args.name.now c.args.metas.now c.loop-meta.meta-index c.meta-item.result c.loop-meta-test.true c.meta-item.is c.loop-meta.invariant
    (λ named. untrue c.is.result c.if-is.false (c.is.ensures.1 named))
