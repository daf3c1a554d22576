use Rattle.meta_said.proofs.Firsting.{untrue, found_name}
use Rattle.meta_said.specs.Owners.{name_of}
use Rattle.meta_said.specs.declared.types.MetaSort.TheVariants.{Kind, Luts}
use Rattle.meta_said.proofs.owner.holds_luts.Goals as goal

pub returns-then-is_some : goal.returns-then-is_some
returns-then-is_some c =
    let kind = found_name (name_of Kind) c.args.metas.now c.first_text.result c.is_some.result c.first_text.ensures c.is_some.ensures in
    let luts = found_name (name_of Luts) c.args.metas.now c.first_text-then-is_some.result c.is_some-then-is_some.result c.first_text-then-is_some.ensures c.is_some-then-is_some.ensures in
    (λ yes. (kind.0 c.if-is_some.true, luts.0 yes), λ holds. luts.1 holds.1)

pub returns-else-is_some : goal.returns-else-is_some
returns-else-is_some c =
    let kind = found_name (name_of Kind) c.args.metas.now c.first_text.result c.is_some.result c.first_text.ensures c.is_some.ensures in
    (λ yes. absurd (untrue c.is_some.result c.if-is_some.false yes), λ holds. kind.1 holds.0)
