-- A site is within the rectangle with it.
use Rattle.std.proofs.Common.{subst}
use Rattle.anneal_placer.proofs.Spans.{bounds_pushed}
use Rattle.anneal_placer.specs.Rects.{AreBounds}
use Rattle.anneal_placer.proofs.rect.joined.Goals as goal

pub returns-in-Some : goal.returns-in-Some
returns-in-Some c = λ xs ys b.
    bounds_pushed xs ys c.in-Some.rect c.with.result c.args.site.x c.args.site.y (subst (AreBounds xs ys) c.in-Some.is b)
    c.with.ensures.columns_low c.with.ensures.columns_high c.with.ensures.rows_low c.with.ensures.rows_high
