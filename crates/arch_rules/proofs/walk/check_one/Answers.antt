use Rattle.arch_rules.specs.Within.{place_in}
use Rattle.arch_rules.proofs.Siblings.{judged}
use Rattle.arch_rules.proofs.walk.check_one.Goals as goal

pub returns-clause-told : goal.returns-clause-told
returns-clause-told c =
    λ before knows. judged _ c.check_elem.result (place_in c.args.at) before c.args.role c.args.elem.now c.in_ok-is_taken.is_taken c.requires
    (c.in_ok-is_taken.ensures.told before knows) c.check_elem.ensures
