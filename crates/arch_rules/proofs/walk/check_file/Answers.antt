use Rattle.std.proofs.Common.{◌∙◌, []}
use Rattle.arch_rules.specs.Within.{place_in}
use Rattle.arch_rules.specs.Walks.{the_file}
use Rattle.arch_rules.proofs.Siblings.{knows_none}
use Rattle.arch_rules.proofs.Root.{root_here, root_fine, root_breaks, other_root}
use Rattle.arch_rules.proofs.walk.check_file.Goals as goal

pub returns-in_err-check_one-clause-broken : goal.returns-in_err-check_one-clause-broken
returns-in_err-check_one-clause-broken c =
    root_here c.from_residual.result c.args.root.now c.in_err-check_one.field-0.0 c.from_residual.ensures.1
    (c.in_err-check_one.ensures.told [] (knows_none the_file c.new-names.result c.new-names.ensures))

pub returns-in-Architecture-clause-fine : goal.returns-in-Architecture-clause-fine
returns-in-Architecture-clause-fine c =
    root_fine c.check_lists.result c.args.root.now (place_in c.inside.result) c.inside.ensures
    (c.in_ok-check_one.ensures.told [] (knows_none the_file c.new-names.result c.new-names.ensures)) c.check_lists.ensures

pub returns-in-Architecture-clause-broken : goal.returns-in-Architecture-clause-broken
returns-in-Architecture-clause-broken c =
    root_breaks c.check_lists.result c.args.root.now (place_in c.inside.result) c.inside.ensures
    (c.in_ok-check_one.ensures.told [] (knows_none the_file c.new-names.result c.new-names.ensures)) c.check_lists.ensures

pub returns : goal.returns
returns c =
    absurd (other_root c.args.root.now (λ is. c.in_default.not-Architecture (c.of_child-role.ensures ∙ is))
    (c.in_ok-check_one.ensures.told [] (knows_none the_file c.new-names.result c.new-names.ensures)))
