use Rattle.std.proofs.Common.{◌∙◌, ap, sym}
use Rattle.arch_rules.specs.Roles.{sort_of}
use Rattle.arch_rules.specs.Within.{place_in}
use Rattle.arch_rules.proofs.Siblings.{knows_more, knows_same}
use Rattle.arch_rules.proofs.walk.is_second.Goals as goal

pub returns-in_ok-fresh-in-Some-clause-knows : goal.returns-in_ok-fresh-in-Some-clause-knows
returns-in_ok-fresh-in-Some-clause-knows c =
    λ before knows. knows_more (place_in c.args.at) before c.args.elem.now c.args.taken.now c.add.new.self c.in-Some.sort c.own_name.result.now c.in_ok-fresh-in-Some.fresh
    (sym (ap sort_of c.requires) ∙ sym c.in-Some.ensures) c.own_name.ensures c.in_ok-fresh-in-Some.ensures knows

pub returns-in-None-clause-knows : goal.returns-in-None-clause-knows
returns-in-None-clause-knows c =
    λ before knows. knows_same (place_in c.args.at) before c.args.elem.now c.args.taken.now (sym (ap sort_of c.requires) ∙ sym c.in-None.ensures) knows
