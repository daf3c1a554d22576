use Rattle.std.proofs.Common.{◌∙◌, ap, codes}
use Rattle.arch_rules.specs.Roles.{either}
use Rattle.arch_rules.specs.declared.role.Role.TheVariants as role
use Rattle.arch_rules.proofs.role.carried.Goals as goal

pub returns : goal.returns
returns c =
    let name = c.args.name.now in
    c.choice.ensures ∙ ap (λ r. either name (codes "power") role.Carried r)
    (c.choice-others-9.ensures ∙ ap (λ r. either name (codes "T_setup") role.Carried r)
    (c.choice-others-8.ensures ∙ ap (λ r. either name (codes "T_hold") role.Carried r)
    (c.choice-others-7.ensures ∙ ap (λ r. either name (codes "T_clock_to_Q") role.Carried r)
    (c.choice-others-6.ensures ∙ ap (λ r. either name (codes "delay_constant") role.Carried r)
    (c.choice-others-5.ensures ∙ ap (λ r. either name (codes "delay_matrix") role.Carried r)
    (c.choice-others-4.ensures ∙ ap (λ r. either name (codes "C_constant") role.Carried r)
    (c.choice-others-3.ensures ∙ ap (λ r. either name (codes "C_matrix") role.Carried r)
    (c.choice-others-2.ensures ∙ ap (λ r. either name (codes "fc") role.Carried r) c.choice-others.ensures))))))))
